-- PROMISE: the number of a reply is 0 exactly if the text was read, or the graph written, and else number and detail are those of the first
-- row of the published table that holds; N and E, or the bytes used, stand behind them.
use Prim.Native.Nat.{ℕ, ◌≤◌}
use mathlib.Core.Path.{◌≡◌, refl, ap, subst}
use mathlib.Core.Logic.{◌↔◌}
use mathlib.Core.List.{List}
use native.Mathlib.Omega.{arith}
use Rattle.std.specs.Prelude.{Err, Ok}
use Rattle.task.specs.declared.refusal.Refusal.{Refusal}
use Rattle.task.specs.Refusals.{refusal_number, refusal_detail, read_says, write_says, ReadAnswer, WriteAnswer}
use Rattle.task.specs.Rows.{Given, Acceptance}
use Rattle.task.proofs.Said.{zero-accepts}
use Rattle.layout.specs.Reader.{lines, read_text}
use Rattle.layout.specs.Writer.{write_text, writer_rows, Writes}
use Rattle.layout.specs.Tables.{reader_rows, Leaves}
use Rattle.layout.proofs.Lines.{lines_are}
use Rattle.layout.proofs.Readings.{refused-leaves}
use Rattle.layout.proofs.Refusals.{read-follows}
use Rattle.layout.proofs.Writer.{write-follows, write-leaves}
use Rattle.layout.proofs.RoundTrip.{writes}
use Rattle.replies.proofs.Told.{tells-refusal}
use Rattle.stg_export.specs.Replies.{reply_of, replied, write_reply_of, write_replied}

pub read-zero : (text w s p : List ℕ) → ((replied (read_text text w s p)).reply.number ≡ 0) ↔ Acceptance (read_says (read_text text w s p).answer)
read-zero text w s p = zero-accepts (reader_rows text (lines text) w s p) _ (read-follows text (lines text) w s p (lines_are text)) refl

pub read-tells : (text w s p : List ℕ) (n d : ℕ) → 1 ≤ n
    → (((replied (read_text text w s p)).reply.number ≡ n) × ((replied (read_text text w s p)).reply.detail ≡ d)) ↔ Given (reader_rows text (lines text) w s p) n d
read-tells text w s p = tells-refusal (reader_rows text (lines text) w s p) _ (read-follows text (lines text) w s p (lines_are text))

-- what a host finds: where the number is 1 or more, the three lists are what they were
pub read-heard : (text w s p : List ℕ) → 1 ≤ (replied (read_text text w s p)).reply.number → Leaves text w s p
read-heard text w s p = go (read_text text w s p).answer refl
  where
    go : (a : ReadAnswer) → (read_text text w s p).answer ≡ a → 1 ≤ (replied (read_text text w s p)).reply.number → Leaves text w s p
    go (Err why) e h = refused-leaves text w s p _ _ (ap read_says e)
    go (Ok (n, x)) e h = absurd (omega (arith, rw e at h))

pub read-replies-hold : ((why : Refusal) → reply_of (Err why) ≡ record { number = refusal_number why; detail = refusal_detail why; tasks = 0; edges = 0 })
    × ((n e : ℕ) → reply_of (Ok (n, e)) ≡ record { number = 0; detail = 0; tasks = n; edges = e })
read-replies-hold = (λ why. refl, λ n e. refl)

module _ (w s p text : List ℕ) where
  pub write-zero : ((write_replied (write_text w s p text)).reply.number ≡ 0) ↔ Acceptance (write_says (write_text w s p text).answer)
  write-zero = zero-accepts (writer_rows w s p text) _ (write-follows w s p text) refl

  pub write-tells : (n d : ℕ) → 1 ≤ n
      → (((write_replied (write_text w s p text)).reply.number ≡ n) × ((write_replied (write_text w s p text)).reply.detail ≡ d)) ↔ Given (writer_rows w s p text) n d
  write-tells = tells-refusal (writer_rows w s p text) _ (write-follows w s p text)

  -- what a host finds: the number is 0 and the text is written, with the bytes used behind it, or else the buffer is what it was
  pub write-heard : ((write_replied (write_text w s p text)).reply.number ≡ 0 → Writes w s p text (write_replied (write_text w s p text)).reply.used)
      × (1 ≤ (write_replied (write_text w s p text)).reply.number → (write_replied (write_text w s p text)).text ≡ text)
  write-heard = go (write_text w s p text).answer refl
    where
      go : (a : WriteAnswer) → (write_text w s p text).answer ≡ a
          → ((write_replied (write_text w s p text)).reply.number ≡ 0 → Writes w s p text (write_replied (write_text w s p text)).reply.used)
          × (1 ≤ (write_replied (write_text w s p text)).reply.number → (write_replied (write_text w s p text)).text ≡ text)
      go (Err why) e =
          (λ z. absurd (subst (λ a. Acceptance (write_says a)) e (write-zero.0 z)), λ _. write-leaves w s p text _ _ (ap write_says e))
      go (Ok b) e =
          (λ _. rw e (writes w s p text b (ap write_says e)), λ h. absurd (omega (arith, rw e at h)))

pub write-replies-hold : ((why : Refusal) → write_reply_of (Err why) ≡ record { number = refusal_number why; detail = refusal_detail why; used = 0 })
    × ((b : ℕ) → write_reply_of (Ok b) ≡ record { number = 0; detail = 0; used = b })
write-replies-hold = (λ why. refl, λ b. refl)
