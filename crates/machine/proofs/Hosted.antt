-- PROMISE: what a host sees of a machine's calls is a run, after each of them; so what is taken within some calls is seen to be taken.
use Prim.Native.Nat.{ℕ}
use mathlib.Core.Path.{◌≡◌, refl, sym, ap, ◌∙◌}
use mathlib.Core.List.{List, [], ◌∷◌, ◌++◌}
use lib.ListN.{take, drop, take-append-drop}
use Rattle.task.specs.Refusals.{Said}
use Rattle.task.specs.declared.Limits.{Limits}
use Rattle.task.specs.declared.Step.TheVariants.{Fetch}
use Rattle.machine.specs.Machine.{Machine, memory_after, events_after}
use Rattle.machine.specs.Seen.{Seen, calls_made, last_left, Link, Chained}
use Rattle.machine.specs.Runs.{begun_of, memory_of}
use Rattle.machine.specs.Jobs.{Call, step_call}
use Rattle.machine.specs.Hosted.{Hosting, run_after, words_after, Hosted}
use Rattle.machine.specs.Fetches.{fetches, fetches_seen, TakenWithin, SeenTaken}
use Rattle.machine.proofs.Seen.{chained-first, chained-later, last-after, events-after, begins-after, Parted, parted}

module _ {M C : Type 0} (on : Machine M C) (begin_by : Limits → (p k : ℕ) → C) (h : Hosting on begin_by) where
  begun : begun_of on begin_by (run_after on begin_by h 0) ≡ h.begun
  begun = sym h.begins.written

  -- before and after the first n calls
  parts : (n : ℕ) → Chained on h.begun (take n h.seen ++ drop n h.seen)
  parts n = rw (take-append-drop n h.seen) h.chained

  early : (n : ℕ) → Chained on h.begun (take n h.seen)
  early n = chained-first on (take n h.seen) (drop n h.seen) h.begun (parts n)

  pub late : (n : ℕ) → Chained on (words_after on begin_by h n) (drop n h.seen)
  late n = chained-later on (take n h.seen) (drop n h.seen) h.begun (parts n)

  pub hosted : Hosted on begin_by h
  hosted =
      record {
        words = λ n.
            ap (memory_after on (calls_made (take n h.seen))) begun ∙ last-after on (take n h.seen) h.begun (early n);
        events = λ n.
            ap (λ (m : M). events_after on (calls_made (take n h.seen)) m []) begun
            ∙ events-after on (take n h.seen) h.begun [] (early n);
      }

module _ {M : Type 0} (on : Machine M Call) where
  -- the owner's accepted Fetches among the calls made are those seen
  fetches-after : (i : ℕ) (seen : List (Seen M Call)) (m : M) → Chained on m seen → fetches on i (calls_made seen) m ≡ fetches_seen on i seen
  unfolding fetches calls_made fetches_seen
  fetches-after i [] m c = refl
  fetches-after i (s ∷ rest) m c = rw (sym c.0.written, sym c.0.answered, fetches-after i rest s.left c.1) refl

  -- what is taken within some calls is seen to be taken
  module _ {A : Type 0} (queue_in : ℕ → ℕ → M → ℕ → ℕ → List A) (fetched : A → Said) (p k owner filler : ℕ) (t : A) (behind : List A) (bound : ℕ) (m : M) where
    seen-taken : (later : List (Seen M Call)) → Chained on m later → TakenWithin on queue_in fetched p k owner filler t behind bound (calls_made later) m
        → SeenTaken on queue_in fetched p k owner filler t behind bound later m
    seen-taken later c w = go (parted w.earlier (step_call w.limits p k owner Fetch) w.later later w.split)
      where
        go : Parted later w.earlier (step_call w.limits p k owner Fetch) → SeenTaken on queue_in fetched p k owner filler t behind bound later m
        go q =
            record {
              before = q.earlier;
              fetch = q.this;
              rest = q.rest;
              split = q.split;
              same_run = sym (begins-after on q.earlier m first) ∙ rw q.calls w.same_run;
              number = rw (sym (fetches-after owner q.earlier m first), q.calls) w.number;
              limits = w.limits;
              asked = q.call;
              answered = link.answered ∙ rw (q.call, sym left) w.answered;
              added = w.added;
              first = rw (sym left) w.first;
              taken = rw (link.written, q.call, sym left) w.taken;
            }
          where
            whole : Chained on m (q.earlier ++ (q.this ∷ q.rest))
            whole = rw q.split at c

            first : Chained on m q.earlier
            first = chained-first on q.earlier (q.this ∷ q.rest) m whole

            link : Link on (last_left m q.earlier) q.this
            link = (chained-later on q.earlier (q.this ∷ q.rest) m whole).0

            left : memory_after on w.earlier m ≡ last_left m q.earlier
            left =
                ap (λ (cs : List Call). memory_after on cs m) (sym q.calls) ∙ last-after on q.earlier m first

  module _ (begin_by : Limits → (p k : ℕ) → Call) (h : Hosting on begin_by) where
    -- the owner's accepted Fetches after the first n calls
    pub hosted-fetches : (n owner : ℕ) → fetches on owner (calls_made (drop n h.seen)) (memory_of on begin_by (run_after on begin_by h n)) ≡ fetches_seen on owner (drop n h.seen)
    hosted-fetches n owner = rw ((hosted on begin_by h).words n) (fetches-after owner (drop n h.seen) (words_after on begin_by h n) (late on begin_by h n))

    -- and what they take
    pub hosted-taken : {A : Type 0} (queue_in : ℕ → ℕ → M → ℕ → ℕ → List A) (fetched : A → Said) (n p k owner filler : ℕ) (t : A) (behind : List A) (bound : ℕ)
        → TakenWithin on queue_in fetched p k owner filler t behind bound (calls_made (drop n h.seen)) (memory_of on begin_by (run_after on begin_by h n))
        → SeenTaken on queue_in fetched p k owner filler t behind bound (drop n h.seen) (words_after on begin_by h n)
    hosted-taken queue_in fetched n p k owner filler t behind bound w =
        seen-taken queue_in fetched p k owner filler t behind bound (words_after on begin_by h n) (drop n h.seen) (late on begin_by h n) (rw (sym ((hosted on begin_by h).words n)) w)
