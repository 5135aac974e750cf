-- Laws of marking: one task, and one task more.
use Prim.Native.Nat.{ℕ, ◌+◌, ◌≤◌, ◌<◌}
use mathlib.Core.Path.{◌≡◌, refl, ◌∙◌}
use mathlib.Core.Logic.{◌⊎◌, inl, inr}
use mathlib.Core.List.{List, [], ◌∷◌}
use native.Mathlib.Omega.{arith}
use native.Mathlib.Decide.{ℕ_discrete, dec_lt}
use lib.ListN.{length, take, get_or, set, length-set}
use lib.Seq.{length-take-le, take-set-le, get_or-set_same, get_or-set_other}
use Rattle.lists.specs.Decided.{tally}
use Rattle.lists.specs.Lists.{occ}
use Rattle.lists.proofs.Decided.{stable, tally-yes, tally-no, tally-pos}
use Rattle.lists.proofs.Occurrences.{occ-nil, occ-hit}
use Rattle.lists.proofs.Sums.{short-without}
use Rattle.lists.proofs.Prefixes.{occ-single, occ-more, occ-store, take_same, inside}
use Rattle.graph.specs.Graph.{Among}
use Rattle.cycles.specs.Marks.{Has, Marked, Grown}

among_one : (v u : ℕ) → Among v (u ∷ []) → v ≡ u
among_one v u h = tally-pos (ℕ_discrete v u) (omega (arith, occ-single v u))

module _ {seen queue : List ℕ} {tail : ℕ} (m : Marked seen queue tail) where
  -- where a task has no mark, the queue has room
  pub room : (u : ℕ) → u < 1024 → get_or seen u 0 ≡ 0 → tail < 1024
  room u h z =
      omega (
        arith,
        length-take-le tail queue (omega (arith, m.queue-size, m.tail-fits)),
        short-without 1024 (take tail queue) (λ v k. omega (arith, m.seen_size, inside seen v (omega (arith, m.once v)))) (λ v. omega (arith, m.once v, m.flags v)) u h (m.once u ∙ z),
      )

  module _ (u : ℕ) (h : u < 1024) where
    pub mark-old : (get_or seen u 0 ≡ 0 → ⊥) → Grown (u ∷ []) seen queue tail seen queue tail
    mark-old n =
        record {
          marked = m;
          longer = omega arith;
          front = refl;
          kept = λ v k. k;
          added = λ v k. rw (among_one v u k) (stable (dec_lt 0 (get_or seen u 0)) (λ z. n (omega arith)));
          only = λ v k. inl k;
        }

    pub mark-new : get_or seen u 0 ≡ 0 → Grown (u ∷ []) seen queue tail (set seen u 1) (set queue tail u) (tail + 1)
    mark-new z =
        record {
          marked = record {
            seen_size = omega (arith, length-set seen u 1, m.seen_size);
            queue-size = omega (arith, length-set queue tail u, m.queue-size);
            tail-fits = omega (arith, room u h z);
            flags = λ v. flag v (ℕ_discrete v u);
            once = λ v. count v (ℕ_discrete v u);
          };
          longer = omega arith;
          front = take-set-le tail queue tail u (omega arith);
          kept = λ v k. keep v k (ℕ_discrete v u);
          added = λ v k. rw (among_one v u k) (omega (arith, here));
          only = λ v k. split v k (ℕ_discrete v u);
        }
      where
        here : get_or (set seen u 1) u 0 ≡ 1
        here = get_or-set_same seen u 1 0 (omega (arith, m.seen_size))

        other : (v : ℕ) → ¬ (v ≡ u) → get_or (set seen u 1) v 0 ≡ get_or seen v 0
        other v n = get_or-set_other seen u v 1 0 n

        flag : (v : ℕ) → Dec (v ≡ u) → get_or (set seen u 1) v 0 ≤ 1
        flag v (yes e) = rw e (omega (arith, here))
        flag v (no n) = omega (arith, other v n, m.flags v)

        stored : (v : ℕ) → occ v (take (tail + 1) (set queue tail u)) ≡ occ v (take tail queue) + tally (ℕ_discrete v u)
        stored = occ-store queue tail u (omega (arith, room u h z, m.queue-size))

        count : (v : ℕ) → Dec (v ≡ u) → occ v (take (tail + 1) (set queue tail u)) ≡ get_or (set seen u 1) v 0
        count v (yes e) = rw e (omega (arith, stored u, here, m.once u, tally-yes (ℕ_discrete u u) refl))
        count v (no n) = omega (arith, stored v, other v n, m.once v, tally-no (ℕ_discrete v u) n)

        keep : (v : ℕ) → Has seen v → Dec (v ≡ u) → Has (set seen u 1) v
        keep v k (yes e) = rw e (omega (arith, here))
        keep v k (no n) = omega (arith, other v n)

        split : (v : ℕ) → Has (set seen u 1) v → Dec (v ≡ u) → Has seen v ⊎ Among v (u ∷ [])
        split v k (yes e) = inr (omega (arith, occ-hit ℕ_discrete v u [] e))
        split v k (no n) = inl (omega (arith, other v n))

-- no word is marked yet
pub grown-none : {seen queue : List ℕ} {tail : ℕ} (words : List ℕ) → Marked seen queue tail → Grown (take 0 words) seen queue tail seen queue tail
grown-none words m =
    record {
      marked = m;
      longer = omega arith;
      front = refl;
      kept = λ u k. k;
      added = λ u k. absurd (omega (arith, occ-nil ℕ_discrete u));
      only = λ u k. inl k;
    }

-- one word more
module _ (words : List ℕ) {s q : List ℕ} {a : ℕ} {s₁ q₁ : List ℕ} {b : ℕ} {s₂ q₂ : List ℕ} {c : ℕ} (i : ℕ) (h : i < length words) where
  pub grown-more : Grown (take i words) s q a s₁ q₁ b → Grown (get_or words i 0 ∷ []) s₁ q₁ b s₂ q₂ c → Grown (take (i + 1) words) s q a s₂ q₂ c
  grown-more f g =
      record {
        marked = g.marked;
        longer = omega (arith, f.longer, g.longer);
        front = take_same q₂ q₁ a b f.longer g.front ∙ f.front;
        kept = λ u k. g.kept u (f.kept u k);
        added = λ u k. adds u k (dec_lt 0 (occ u (take i words)));
        only = λ u k. back u (g.only u k);
      }
    where
      both : (u : ℕ) → occ u (take (i + 1) words) ≡ occ u (take i words) + occ u (get_or words i 0 ∷ [])
      both u = omega (arith, occ-more words i h u, occ-single u (get_or words i 0))

      adds : (u : ℕ) → Among u (take (i + 1) words) → Dec (0 < occ u (take i words)) → Has s₂ u
      adds u k (yes l) = g.kept u (f.added u l)
      adds u k (no n) = g.added u (omega (arith, both u))

      first : (u : ℕ) → Has s u ⊎ Among u (take i words) → Has s u ⊎ Among u (take (i + 1) words)
      first u (inl k) = inl k
      first u (inr k) = inr (omega (arith, both u))

      back : (u : ℕ) → Has s₁ u ⊎ Among u (get_or words i 0 ∷ []) → Has s u ⊎ Among u (take (i + 1) words)
      back u (inl k) = first u (f.only u k)
      back u (inr k) = inr (omega (arith, both u))
