-- Calls as a host sees them are a list of calls, and its memory and events are those seen.
use mathlib.Core.Path.{◌≡◌, refl, sym, ap, ◌∙◌}
use mathlib.Core.List.{List, [], ◌∷◌, ◌++◌}
use native.Mathlib.Omega.{arith}
use lib.ListN.{length, drop}
use Rattle.lists.proofs.Appends.{head-same}
use Rattle.task.specs.Refusals.{Said}
use Rattle.machine.specs.Machine.{Machine, Event, event_of, memory_after, recalled, events_after, begins}
use Rattle.machine.specs.Seen.{Seen, event_seen, calls_made, last_left, Chained, events_seen, begins_seen}

module _ {M C : Type 0} (on : Machine M C) where
  -- the first calls of a chain, and those after them on the memory that these left
  pub chained-first : (a b : List (Seen M C)) (m : M) → Chained on m (a ++ b) → Chained on m a
  chained-first [] b m c = tt
  chained-first (s ∷ a) b m c = (c.0, chained-first a b s.left c.1)

  pub chained-later : (a b : List (Seen M C)) (m : M) → Chained on m (a ++ b) → Chained on (last_left m a) b
  unfolding last_left
  chained-later [] b m c = c
  chained-later (s ∷ a) b m c = chained-later a b s.left c.1

  -- what the machine does with the calls made is what was seen
  pub last-after : (seen : List (Seen M C)) (m : M) → Chained on m seen → memory_after on (calls_made seen) m ≡ last_left m seen
  unfolding memory_after calls_made last_left
  last-after [] m c = refl
  last-after (s ∷ rest) m c = ap (memory_after on (calls_made rest)) (sym c.0.written) ∙ last-after rest s.left c.1

  pub events-after : (seen : List (Seen M C)) (m : M) (past : List (Event C)) → Chained on m seen
      → events_after on (calls_made seen) m past ≡ events_seen on seen past
  unfolding events_after calls_made events_seen
  events-after [] m past c = refl
  events-after (s ∷ rest) m past c =
      ap (λ (m' : M). events_after on (calls_made rest) m' (recalled on (event_of on s.call m) past)) (sym c.0.written)
      ∙ ap (λ (said : Said). events_after on (calls_made rest) s.left (recalled on (record { call = s.call; said = said }) past)) (sym c.0.answered)
      ∙ events-after rest s.left (recalled on (event_seen s) past) c.1

  pub begins-after : (seen : List (Seen M C)) (m : M) → Chained on m seen → begins on (calls_made seen) m ≡ begins_seen on seen
  unfolding begins calls_made begins_seen
  begins-after [] m c = refl
  begins-after (s ∷ rest) m c = rw (sym c.0.written, sym c.0.answered, begins-after rest s.left c.1) refl

module _ {M C : Type 0} where
  -- the calls made, parted at one of them: so were they seen
  pub record Parted (seen : List (Seen M C)) (before : List C) (c : C) : Type 0 where
    pub earlier : List (Seen M C)
    pub this : Seen M C
    pub rest : List (Seen M C)
    pub split : seen ≡ earlier ++ (this ∷ rest)
    pub calls : calls_made earlier ≡ before
    pub call : this.call ≡ c

  parted-more : {seen : List (Seen M C)} {before : List C} {c b : C} (s : Seen M C) → s.call ≡ b → Parted seen before c
      → Parted (s ∷ seen) (b ∷ before) c
  unfolding calls_made
  parted-more s e p =
      record {
        earlier = s ∷ p.earlier;
        this = p.this;
        rest = p.rest;
        split = ap (λ (l : List (Seen M C)). s ∷ l) p.split;
        calls = rw (e, p.calls) refl;
        call = p.call;
      }

  pub parted : (before : List C) (c : C) (after : List C) (seen : List (Seen M C)) → calls_made seen ≡ before ++ (c ∷ after) → Parted seen before c
  unfolding calls_made
  parted [] c after [] e = absurd (omega (arith, ap length e))
  parted [] c after (s ∷ seen) e = record { earlier = []; this = s; rest = seen; split = refl; calls = refl; call = head-same e }
  parted (b ∷ before) c after [] e = absurd (omega (arith, ap length e))
  parted (b ∷ before) c after (s ∷ seen) e = parted-more s (head-same e) (parted before c after seen (ap (drop 1) e))
