-- PROMISES: what an accepted call writes, and that it reads back: "Reading the result yields the same weights and predecessor tables."
use Prim.Native.Nat.{ℕ, ◌+◌, ◌≤◌, ◌<◌}
use mathlib.Core.Path.{◌≡◌, sym, ap, subst, ◌∙◌}
use mathlib.Core.Bool.{true}
use mathlib.Core.Logic.{◌⊎◌, inl, inr}
use mathlib.Core.List.{List}
use native.Mathlib.Omega.{arith}
use native.Mathlib.Decide.{dec_le}
use lib.ListN.{length, take, drop, length-append, length-drop}
use lib.Seq.{take-append_seam, drop-append_seam}
use Rattle.lists.proofs.Apart.{true-and-false}
use Rattle.lists.proofs.Told.{Told, told-true, told-false}
use Rattle.task.specs.Types.{engine, capped}
use Rattle.task.specs.Refusals.{refused, bytes_used, answer_says, write_says, wrong_length, no_dummies}
use Rattle.task.specs.Rows.{Acceptance, Given}
use Rattle.graph.specs.Graph.{graph_of}
use Rattle.graph.specs.Conditions.{GraphFits}
use Rattle.graph.specs.Tables.{table_rows, check_rows}
use Rattle.graph.proofs.Refusals.{graph-follows}
use Rattle.graph.proofs.Accepted.{graph-accepted-iff, fits-sound}
use Rattle.layout.specs.Tasks.{Tables, tables}
use Rattle.layout.specs.Layout.{Spells}
use Rattle.layout.specs.Plain.{text_of}
use Rattle.layout.specs.Alike.{Alike}
use Rattle.layout.specs.Reader.{onto}
use Rattle.layout.specs.Tables.{Accepts}
use Rattle.layout.specs.Writer.{dummies_fit, Saved, write_text, NoDummies, TooSmall, most_written, Writes}
use Rattle.layout.proofs.Unique.{spells-unique}
use Rattle.layout.proofs.Readings.{accepted-iff}
use Rattle.layout.proofs.Same.{same_alike}
use Rattle.layout.proofs.Sizes.{text-short}
use Rattle.layout.proofs.Saved.{text-plain, text-spells, read-light, read-dummies}
use Rattle.layout.proofs.Writer.{dummies-told, Ways, checked, undummied, crowded, put, ways}

-- what acceptance shows
record Taken (w s p text : List ℕ) (b : ℕ) : Type 0 where
  fits : GraphFits engine w s p
  dummies : dummies_fit w s ≡ true
  room : length (text_of (tables w s p)) ≤ length text
  count : b ≡ length (text_of (tables w s p))
  left : (write_text w s p text).text ≡ onto (text_of (tables w s p)) text

module _ (w s p text : List ℕ) where
  abbrev bytes : List ℕ
  bytes = text_of (tables w s p)

  taken : (b : ℕ) → write_says (write_text w s p text).answer ≡ bytes_used b → Taken w s p text b
  taken b said = go (ways w s p text)
    where
      unsaid : {A : Type 0} {n d : ℕ} → refused n d ≡ bytes_used b → A
      unsaid e = absurd (subst Acceptance (sym e) tt)

      go : Ways w s p text → Taken w s p text b
      go (checked _ _ q) = unsaid (rw q at said)
      go (undummied _ q) = unsaid (rw q at said)
      go (crowded _ _ q) = unsaid (rw q at said)
      go (put f d r q) =
          let told : bytes_used (length bytes) ≡ bytes_used b = rw q at said in
          record { fits = f; dummies = d; room = r; count = cc; left = ap (λ (x : Saved). x.text) q }

  -- PROMISE: the text first, of the form named, and it spells the tables; "bytes beyond stay"
  pub writes : (b : ℕ) → write_says (write_text w s p text).answer ≡ bytes_used b → Writes w s p text b
  writes b said =
      record {
        room = rw t.count t.room;
        used = rw (t.left, t.count) (take-append_seam bytes (drop (length bytes) text));
        size = rw t.left (omega (arith, length-append bytes (drop (length bytes) text), length-drop (length bytes) text, t.room));
        beyond = rw (t.left, t.count) (drop-append_seam bytes (drop (length bytes) text));
        plain = text-plain w s p (fits-sound t.fits) t.fits.light t.dummies;
        spells = text-spells w s p (fits-sound t.fits) t.fits.light t.dummies;
        short = rw t.count (text-short w s p (fits-sound t.fits) t.fits.light);
      }
    where
      t : Taken w s p text b
      t = taken b said

  -- PROMISE: a buffer of 57,349 bytes is never too small: with it 1 is of the starts alone
  pub enough-room : most_written ≤ length text → length s ≡ length w + 1 → (d : ℕ) → ¬ (write_says (write_text w s p text).answer ≡ refused wrong_length d)
  enough-room room starts d said = go (ways w s p text)
    where
      of-starts : Given (check_rows engine ⊥ ⊥ w s p) wrong_length d → ⊥
      of-starts (inl h) = omega (arith, h.0)
      of-starts (inr (_, inl (_, (_, inl h)))) = h starts
      of-starts (inr (_, inl (_, (_, inr h)))) = h
      of-starts (inr (_, inr (_, inl h))) = omega (arith, h.0)
      of-starts (inr (_, inr (_, inr (_, inl h)))) = omega (arith, h.0)
      of-starts (inr (_, inr (_, inr (_, inr (_, inl h))))) = omega (arith, h.0)
      of-starts (inr (_, inr (_, inr (_, inr (_, inr (_, inl h)))))) = omega (arith, h.0)
      of-starts (inr (_, inr (_, inr (_, inr (_, inr (_, inr (_, h))))))) = h

      go : Ways w s p text → ⊥
      go (checked why e q) = of-starts (((graph-follows engine w s p).refuses wrong_length d).0 (ap answer_says e ∙ (rw q at said)))
      go (undummied _ q) = let same : refused no_dummies 0 ≡ refused wrong_length d = rw q at said in let number : no_dummies ≡ wrong_length = cc in omega (arith, number)
      go (crowded f l q) = omega (arith, l, room, text-short w s p (fits-sound f) f.light)
      go (put _ _ _ q) = absurd (subst Acceptance (rw q at said) tt)

-- the bytes used by an accepted call
abbrev pub used_bytes : (w s p text : List ℕ) (b : ℕ) → List ℕ
used_bytes w s p text b = take b (write_text w s p text).text

-- a graph that the check and 14 pass is written wherever its text has room
fitting-written : (w s p text : List ℕ) → GraphFits engine w s p → dummies_fit w s ≡ true → length (text_of (tables w s p)) ≤ length text
    → write_says (write_text w s p text).answer ≡ bytes_used (length (text_of (tables w s p)))
fitting-written w s p text f d r = go (ways w s p text)
  where
    go : Ways w s p text → write_says (write_text w s p text).answer ≡ bytes_used (length (text_of (tables w s p)))
    go (checked why e q) = absurd (subst Acceptance (sym ((graph-accepted-iff engine w s p).1 f) ∙ ap answer_says e) tt)
    go (undummied n q) = true-and-false d n
    go (crowded _ l q) = absurd (omega (arith, l, r))
    go (put _ _ _ q) = ap (λ (x : Saved). write_says x.answer) q

-- PROMISE: so, in the table's words: none of 2, 1, 3, 4, 5 holds of the graph (`GraphFits`), 14 doesn't, and the buffer isn't too small
pub written-there : (w s p text : List ℕ) → GraphFits engine w s p → ¬ (NoDummies w s p) → ¬ (TooSmall w s p text)
    → write_says (write_text w s p text).answer ≡ bytes_used (length (text_of (tables w s p)))
written-there w s p text f dummies room = go (dummies-told w s p f)
  where
    small : dummies_fit w s ≡ true → length text < length (text_of (tables w s p)) → TooSmall w s p text
    small d l =
        record {
          bytes = text_of (tables w s p);
          plain = text-plain w s p (fits-sound f) f.light d;
          spells = text-spells w s p (fits-sound f) f.light d;
          short = l;
        }

    roomy : dummies_fit w s ≡ true → Dec (length (text_of (tables w s p)) ≤ length text) → length (text_of (tables w s p)) ≤ length text
    roomy d (yes r) = r
    roomy d (no n) = absurd (room (small d (omega (arith, n))))

    go : Told (dummies_fit w s) (¬ (NoDummies w s p)) (NoDummies w s p)
        → write_says (write_text w s p text).answer ≡ bytes_used (length (text_of (tables w s p)))
    go (told-true d _) = fitting-written w s p text f d (roomy d (dec_le (length (text_of (tables w s p))) (length text)))
    go (told-false _ no-dummies) = absurd (dummies no-dummies)

module _ (w s p text : List ℕ) (b : ℕ) (said : write_says (write_text w s p text).answer ≡ bytes_used b) where
  used-spells : Spells (used_bytes w s p text b) (tables w s p)
  used-spells = rw (writes w s p text b said).used (writes w s p text b said).spells

  -- PROMISE: the bytes used are read, on every list of the reader's lengths, as N, E and these three tables word for word
  pub round_trip : (w' s' p' : List ℕ) → length w' ≡ 1024 → length s' ≡ 1025 → length p' ≡ 8192
      → Accepts (used_bytes w s p text b) w' s' p' (tables w s p)
  unfolding capped
  round_trip w' s' p' hw hs hp =
      let t = taken w s p text b said in
      let short : length (used_bytes w s p text b) ≤ 65536 =
      rw (writes w s p text b said).used (omega (arith, (writes w s p text b said).short, t.count)) in
      (accepted-iff (used_bytes w s p text b) w' s' p' (tables w s p)).1 (
        record { weights = hw; starts = hs; preds = hp; short = short },
        used-spells,
        (omega (arith, t.fits.tasks), omega (arith, t.fits.edges)),
      )

  -- PROMISE: what is read from them and saved again, into any buffer that has room, are the same bytes
  pub saved-again : (w' s' p' : List ℕ) (g : Tables) → Accepts (used_bytes w s p text b) w' s' p' g → (text' : List ℕ) → b ≤ length text'
      → (write_says (write_text g.weights g.starts g.preds text').answer ≡ bytes_used b)
      × (used_bytes g.weights g.starts g.preds text' b ≡ used_bytes w s p text b)
  saved-again w' s' p' g a text' room = subst Again (sym same) (
    again,
    (writes w s p text' b again).used ∙ sym (writes w s p text b said).used,
  )
    where
      Again : Tables → Type 0
      Again h =
          (write_says (write_text h.weights h.starts h.preds text').answer ≡ bytes_used b)
          × (used_bytes h.weights h.starts h.preds text' b ≡ used_bytes w s p text b)

      t : Taken w s p text b
      t = taken w s p text b said

      again : write_says (write_text w s p text').answer ≡ bytes_used b
      again = fitting-written w s p text' t.fits t.dummies (omega (arith, room, t.count)) ∙ ap bytes_used (sym t.count)

      same : g ≡ tables w s p
      same = spells-unique (used_bytes w s p text b) g (tables w s p) ((accepted-iff (used_bytes w s p text b) w' s' p' g).0 a).1 used-spells

-- Texts that were read, and then saved.
module _ (text w s p : List ℕ) (g : Tables) (read : Accepts text w s p g) (buffer : List ℕ) where
  -- PROMISE: it differs in skipped lines, line ends, white space and zeros in front alone
  pub saved-alike : (b : ℕ) → write_says (write_text g.weights g.starts g.preds buffer).answer ≡ bytes_used b
      → Alike text (used_bytes g.weights g.starts g.preds buffer b)
  saved-alike b e = same_alike text _ g ((accepted-iff text w s p g).0 read).1 (used-spells g.weights g.starts g.preds buffer b e)

  -- PROMISE: it is refused with 3, 4 or 5, or with 1 for the buffer, never with 14
  pub read-refused : (n d : ℕ) → write_says (write_text g.weights g.starts g.preds buffer).answer ≡ refused n d
      → Given (table_rows (graph_of (length g.weights) g.starts g.preds)) n d
      ⊎ ((n ≡ wrong_length) × (d ≡ 0) × (length buffer < length (text_of g)))
  unfolding capped
  read-refused n d said = go (ways g.weights g.starts g.preds buffer)
    where
      of-tables : Given (check_rows engine ⊥ ⊥ g.weights g.starts g.preds) n d
          → Given (table_rows (graph_of (length g.weights) g.starts g.preds)) n d
      of-tables (inl (_, (_, inl (inl h)))) = absurd h
      of-tables (inl (_, (_, inl (inr (inl h))))) = absurd (omega (arith, h, ((accepted-iff text w s p g).0 read).2.0))
      of-tables (inl (_, (_, inl (inr (inr h))))) = absurd (omega (arith, h, ((accepted-iff text w s p g).0 read).2.1))
      of-tables (inl (_, (_, inr (t, (l, h))))) = absurd (omega (arith, h, read-light text w s p g read t l))
      of-tables (inr (_, inl (_, (_, inl h)))) = absurd (h (omega (arith, read.starts-count)))
      of-tables (inr (_, inl (_, (_, inr h)))) = absurd h
      of-tables (inr (_, inr (_, h))) = h

      go : Ways g.weights g.starts g.preds buffer
          → Given (table_rows (graph_of (length g.weights) g.starts g.preds)) n d
          ⊎ ((n ≡ wrong_length) × (d ≡ 0) × (length buffer < length (text_of g)))
      go (checked why e q) = inl (of-tables (((graph-follows engine g.weights g.starts g.preds).refuses n d).0 (ap answer_says e ∙ (rw q at said))))
      go (undummied f q) = true-and-false (read-dummies text w s p g read) f
      go (crowded _ l q) = let same : refused wrong_length 0 ≡ refused n d = rw q at said in inr (cc, cc, l)
      go (put _ _ _ q) = absurd (subst Acceptance (rw q at said) tt)
