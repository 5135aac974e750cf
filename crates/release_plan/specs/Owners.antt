-- The owner whose ring takes a task that is ready.
use Rattle.task.specs.declared.refusal.Refusal.TheVariants.{Damaged, RingsFull}
use Rattle.std.specs.Prelude.{ℕ, ◌<◌, ◌≡◌, true, cond, not, List, length, get_or, ℤ, pos, Result, Ok, Err}
use Rattle.lists.specs.Lists.{all_of}
use Rattle.lists.specs.Circles.{around}
use Rattle.task.specs.declared.refusal.Refusal.{Refusal}
use Rattle.task.specs.declared.WorkerId.{WorkerId}
use Rattle.task.specs.declared.Ends.{Ends}
use Rattle.ring.specs.Ring.{Sound, Full, sound, full, ends_at}
use Rattle.choice.specs.Least.{load, least}
use Rattle.choice.specs.Search.{Found, unsound, none, at, search}
use Rattle.plans.specs.Forms.{own}
use Rattle.rules.specs.Memory.{Mem, ring_number, successor}
use Rattle.rules.specs.Words.{counter_fits, counters_fit}
use Rattle.rules.specs.Plans.{refuse}
use Rattle.rules.specs.Steps.{release_to, release_ready}

-- the ring that a task joins, by ends and counters: the target, and the search from it on; unsound where a counter is out of its range
unfoldable pub room_from : (p k i : ℕ) → List ℕ → List ℤ → Found
room_from p k i e c =
    cond (counters_fit c)
    (search (λ o. sound k (ends_at e (ring_number p o i))) (λ o. not (full k (ends_at e (ring_number p o i)))) (around p (least (all_of p) (load p c))))
    unsound

-- the owner and the ends of its ring, or why there is none
abbrev pub Owner : Type 0
Owner = Result (WorkerId × Ends) Refusal

pattern abbrev pub At : WorkerId → Ends → Owner
At o both = Ok (o, both)

-- refused, 11 with task s for its detail, or the owner and the ends of its ring
abbrev pub owner_at : (s : ℕ) → (ℕ → Ends) → Found → Owner
owner_at s here unsound = Err Damaged
owner_at s here none = Err (RingsFull s)
owner_at s here (at o) = At (record { 0 = o }) (here o)

unfoldable pub owner_of : (p k i s : ℕ) → List ℕ → List ℤ → Owner
owner_of p k i s e c = owner_at s (λ o. ends_at e (ring_number p o i)) (room_from p k i e c)

-- a memory that has these ends and counters, where task s is the successor at worker i's cursor
pub record Offers (i s : ℕ) (e : List ℕ) (c : List ℤ) (m : Mem) : Type 0 where
  pub task : successor m i ≡ s
  pub ends : m.ends ≡ e
  pub counters : m.counters ≡ c

-- owner o found: what is known of its ring and of all counters, and that the rule goes on with it
pub record Takes (p k i s : ℕ) (e : List ℕ) (c : List ℤ) (o : ℕ) : Type 0 where
  pub owner : o < p
  pub sound : Sound k (ends_at e (ring_number p o i))
  pub room : ¬ (Full k (ends_at e (ring_number p o i)))
  pub counters : (q : ℕ) → q < length c → counter_fits (get_or c q (pos 0)) ≡ true
  pub follows : (m : Mem) → Offers i s e c m → release_ready (own p m) p k i m ≡ release_to (own p m) p k i m (at o)

abbrev pub Owned : (p k i s : ℕ) → List ℕ → List ℤ → Owner → Type 0
Owned p k i s e c (Err why) = (m : Mem) → Offers i s e c m → release_ready (own p m) p k i m ≡ refuse why
Owned p k i s e c (At o both) = Takes p k i s e c o.0 × (both ≡ ends_at e (ring_number p o.0 i))
