-- What a worker releases next, of any family: until one of its Releases is accepted it stays, and none of the rings that it fills gets fuller. So where P
-- accepted Fetches of one worker have taken from such a ring, it isn't full.
use Prim.Native.Nat.{ℕ, suc, ◌+◌, ◌*◌, ◌≤◌, ◌<◌}
use mathlib.Core.Path.{◌≡◌, refl, sym, ap, subst, ◌∙◌}
use mathlib.Core.Bool.{Bool, true, false, cond}
use mathlib.Core.Logic.{inl, inr}
use mathlib.Core.List.{List, [], ◌∷◌, ◌++◌, append_assoc}
use native.Mathlib.Omega.{arith}
use native.Mathlib.Decide.{ℕ_discrete}
use lib.Dec.{eqb}
use lib.ListN.{length, get_or, set}
use lib.Seq.{get_or-set_same, get_or-set_other}
use borrow.Author.Tests.{eqb-false}
use Rattle.lists.proofs.Apart.{unequal, true-and-false}
use Rattle.lists.proofs.Circles.{mod-reached}
use Rattle.lists.proofs.Places.{place_same}
use Rattle.lists.proofs.Squares.{field-kept}
use Rattle.task.specs.Phases.{suits}
use Rattle.task.specs.Refusals.{Said, refused, answered, damaged, wrong_phase}
use Rattle.task.specs.Rows.{Refusal, Passed, Given, Acceptance, Follows}
use Rattle.task.specs.declared.Ends.{Ends}
use Rattle.task.specs.declared.Limits.{Limits}
use Rattle.task.specs.declared.Step.{Step}
use Rattle.task.specs.declared.Step.TheVariants.{Fetch}
use Rattle.ring.specs.Ring.{end_words, ends_at, store_ends, Sound, Empty, Full}
use Rattle.ring.proofs.Ends.{capacity-is, ends-stored, ends-other}
use Rattle.ring.proofs.Queues.{length-count, queue-empty, queue-most}
use Rattle.memory.specs.Family.{Family}
use Rattle.memory.specs.Memory.{Mem}
use Rattle.machine.specs.Machine.{Machine, event_of, began, accepted_said, memory_after, begins}
use Rattle.machine.specs.Jobs.{Call, step_call, Engine, says, leaves, machine_of}
use Rattle.machine.specs.Fetches.{one_more, TakenWithin}
use Rattle.machine.proofs.Jobs.{Laws, Did, stays, steps, starts, did, fit-kept, begin-began}
use Rattle.machine.proofs.Lists.{memory-on}
use Rattle.plans.specs.Memory.{tasks, ring_number, ends_in, rings_in, buffer_at, row_in, phase_in, pointer_in, places_in, oldest, successor}
use Rattle.plans.specs.Sizes.{Fits}
use Rattle.plans.specs.Tables.{GoesOn, scanned_ends, headed_rows}
use Rattle.plans.proofs.Headers.{fits-within}
use Rattle.plans.proofs.Kept.{SameGraph}
use Rattle.split_lists.specs.Reading.{queue_in}
use Rattle.runs.specs.RoomSoon.{is_release, release_by, releases}
use Rattle.views.proofs.Recounts.{said-accepted}

module _ {F : Family} where
  -- worker i has something to release
  pub record Due (i : ℕ) (m : Mem F) : Type 0 where
    pub some : (places_in m i).read < (places_in m i).write
    pub inside : (places_in m i).read < tasks m

  -- from m to m' it still has, and the same next, and no ring that it fills holds more
  pub record Postponed (p i : ℕ) (m m' : Mem F) : Type 0 where
    pub due : Due i m'
    pub oldest_is : oldest m' i ≡ oldest m i
    pub successor_is : successor m' i ≡ successor m i
    pub counts : (o : ℕ) → o < p → (ends_in m' (ring_number p o i)).count ≤ (ends_in m (ring_number p o i)).count

  -- where worker i has something to release, it is postponed
  abbrev pub Postpones : ℕ → ℕ → Mem F → Mem F → Type 0
  Postpones p i m m' = Due i m → Postponed p i m m'

  pub postpones-none : (p i : ℕ) (m : Mem F) → Postpones p i m m
  postpones-none p i m due = record { due = due; oldest_is = refl; successor_is = refl; counts = λ o l. omega arith }

  pub postpones-on : (p i : ℕ) (m m₁ m₂ : Mem F) → Postpones p i m m₁ → Postpones p i m₁ m₂ → Postpones p i m m₂
  postpones-on p i m m₁ m₂ f g due =
      let a = f due in
      let b = g a.due in
      record {
        due = b.due;
        oldest_is = b.oldest_is ∙ a.oldest_is;
        successor_is = b.successor_is ∙ a.successor_is;
        counts = λ o l. omega (arith, a.counts o l, b.counts o l);
      }

  -- the parts of which a step's is put together: worker i's places, but for what joins its buffer, the word that it reads there, and the counts
  pub record SamePlaces (i : ℕ) (m m' : Mem F) : Type 0 where
    pub read : (places_in m' i).read ≡ (places_in m i).read
    pub cursor : (places_in m' i).cursor ≡ (places_in m i).cursor
    pub write : (places_in m i).write ≤ (places_in m' i).write

  pub postponed-by : {p i : ℕ} {m m' : Mem F} → SameGraph m m' → SamePlaces i m m' → Due i m
      → get_or m'.buffers (buffer_at m i (places_in m i).read) 0 ≡ oldest m i
      → ((o : ℕ) → o < p → (ends_in m' (ring_number p o i)).count ≤ (ends_in m (ring_number p o i)).count)
      → Postponed p i m m'
  postponed-by {p} {i} {m} {m'} g s due word counts =
      record {
        due = record { some = omega (arith, s.read, s.write, due.some); inside = omega (arith, s.read, same, due.inside) };
        oldest_is = same-oldest;
        successor_is = rw (g.succ_starts, g.succs, s.cursor, same-oldest) refl;
        counts = counts;
      }
    where
      same : tasks m' ≡ tasks m
      same = ap length g.weights

      same-oldest : oldest m' i ≡ oldest m i
      same-oldest = rw (s.read, same) word

  -- worker w's row alone changes, and keeps its places but for what joins its buffer
  pub places-made : (w : ℕ) (m m' : Mem F) (row : F.Row) → w < length m.rows → m'.rows ≡ set m.rows w row
      → (F.places row).read ≡ (places_in m w).read → (F.places row).cursor ≡ (places_in m w).cursor
      → (places_in m w).write ≤ (F.places row).write → (i : ℕ) → SamePlaces i m m'
  places-made w m m' row inside rows read cursor write i =
      record {
        read = rw rows (field-kept (λ (r : F.Row). (F.places r).read) m.rows w row F.no_row read i);
        cursor = rw rows (field-kept (λ (r : F.Row). (F.places r).cursor) m.rows w row F.no_row cursor i);
        write = rw rows (go (ℕ_discrete i w));
      }
    where
      go : Dec (i ≡ w) → (places_in m i).write ≤ (F.places (get_or (set m.rows w row) i F.no_row)).write
      go (yes e) = rw (e, get_or-set_same m.rows w row F.no_row inside) write
      go (no n) = rw (get_or-set_other m.rows w i row F.no_row n) (omega arith)

  -- a Release by another worker leaves the row, and any other step keeps the places
  pub places-kept : (w i : ℕ) (s : Step) {m m' : Mem F} → (¬ (i ≡ w) → row_in m' i ≡ row_in m i) → (is_release s ≡ false → SamePlaces i m m')
      → cond (is_release s) (eqb w i) false ≡ false → SamePlaces i m m'
  places-kept w i s {m} {m'} other own e = go (is_release s) refl e
    where
      go : (b : Bool) → is_release s ≡ b → cond b (eqb w i) false ≡ false → SamePlaces i m m'
      go true q n =
          let same = other (λ x. eqb-false w i n (sym x)) in
          record {
            read = ap (λ (r : F.Row). (F.places r).read) same;
            cursor = ap (λ (r : F.Row). (F.places r).cursor) same;
            write = omega (arith, ap (λ (r : F.Row). (F.places r).write) same);
          }
      go false q n = own q

  -- a task that joins a buffer stands behind what is read there
  pub buffer-behind : (i w : ℕ) (m : Mem F) (t : ℕ) → Due i m → (places_in m w).write < tasks m
      → get_or (set m.buffers (buffer_at m w (places_in m w).write) t) (buffer_at m i (places_in m i).read) 0 ≡ oldest m i
  buffer-behind i w m t due room =
      get_or-set_other m.buffers (buffer_at m w (places_in m w).write) (buffer_at m i (places_in m i).read) t 0 apart
    where
      apart : ¬ (buffer_at m i (places_in m i).read ≡ buffer_at m w (places_in m w).write)
      apart e =
          let (a, b) = place_same (tasks m) i (places_in m i).read w (places_in m w).write due.inside room e in
          omega (arith, due.some, b, ap (λ (x : ℕ). (places_in m x).write) a)

-- a take from a ring leaves it less, an append by another filler leaves it
pub count-taken : (words : List ℕ) (q : ℕ) (e : Ends) → q * end_words + end_words ≤ length words → e.count ≤ (ends_at words q).count
    → (r : ℕ) → (ends_at (store_ends words q e) r).count ≤ (ends_at words r).count
count-taken words q e inside less r = go (ℕ_discrete r q)
  where
    go : Dec (r ≡ q) → (ends_at (store_ends words q e) r).count ≤ (ends_at words r).count
    go (yes s) = rw (s, ends-stored words q e inside) less
    go (no n) = rw (ends-other words q r e n) (omega arith)

pub count_kept : (words : List ℕ) (p owner w o i : ℕ) (e : Ends) → w < p → i < p → ¬ (i ≡ w)
    → (ends_at (store_ends words (ring_number p owner w) e) (ring_number p o i)).count ≤ (ends_at words (ring_number p o i)).count
count_kept words p owner w o i e hw hi n =
    rw (ends-other words (ring_number p owner w) (ring_number p o i) e (λ s. n (place_same p o i owner w hi hw s).1)) (omega arith)

-- an owner of a ring that isn't empty finds something
pub scan-some : {F : Family} (p k owner filler : ℕ) (m : Mem F) → pointer_in m owner < p → filler < p → ¬ (Empty (ends_in m (ring_number p owner filler)))
    → ¬ (GoesOn k Empty (scanned_ends p owner m) p)
scan-some p k owner filler m near fills some all =
    let (d, inside, e) = mod-reached p (pointer_in m owner) filler near fills in
    some (subst (λ (j : ℕ). Empty (ends_in m (ring_number p owner j))) e (all d inside).1)

-- Along a list of calls.
none_more : (b : Bool) (n : ℕ) → ◌≡◌ {A = ℕ} (one_more b n) 0 → (b ≡ false) × (n ≡ 0)
none_more true n e = absurd (omega (arith, e))
none_more false n e = (refl, e)

none-begun : (b : Bool) (n : ℕ) → ◌≡◌ {A = ℕ} (cond b (suc n) n) 0 → ¬ (b ≡ true) × (n ≡ 0)
none-begun true n e = absurd (omega (arith, e))
none-begun false n e = ((λ q. unequal cc), e)

module _ {M : Type 0} (on : Engine M) {Fit : ℕ → ℕ → M → Type 0} (laws : Laws on Fit) (p k i : ℕ) (R : M → M → Type 0)
    (none : (m : M) → R m m) (then : (m m₁ m₂ : M) → R m m₁ → R m₁ m₂ → R m m₂)
    -- what a family has to show of one accepted step that is no Release by worker i
    (stepped : (limits : Limits) (w : ℕ) (s : Step) (m : M) → Acceptance (on.step_says limits p k w s m) → cond (is_release s) (eqb w i) false ≡ false
    → R m (on.step_leaves limits p k w s m)) where
  call-keeps : (c : Call) (m : M) → Did on p k m c → ¬ (began (machine_of on) (event_of (machine_of on) c m) ≡ true)
      → cond (release_by i c) (accepted_said (says on c m)) false ≡ false → R m (leaves on c m)
  call-keeps c m (stays _ h e) same own = rw e (none m)
  call-keeps _ m (steps limits w s a) same own = stepped limits w s m a (go (cond (is_release s) (eqb w i) false) own)
    where
      go : (b : Bool) → cond b (accepted_said (on.step_says limits p k w s m)) false ≡ false → b ≡ false
      go true e = true-and-false (said-accepted (on.step_says limits p k w s m) a) e
      go false e = refl
  call-keeps _ m (starts limits e) same own = absurd (same (begin-began on limits p k m e))

  pub calls-keep : (cs : List Call) (m : M) → Fit p k m → ◌≡◌ {A = ℕ} (begins (machine_of on) cs m) 0 → ◌≡◌ {A = ℕ} (releases (machine_of on) i cs m) 0
      → R m (memory_after (machine_of on) cs m)
  unfolding memory_after begins releases
  calls-keep [] m fit e q = none m
  calls-keep (c ∷ cs) m fit e q =
      let (same, e') = none-begun (began (machine_of on) (event_of (machine_of on) c m)) (begins (machine_of on) cs (leaves on c m)) e in
      let (own, q') = none_more (cond (release_by i c) (accepted_said (says on c m)) false) (releases (machine_of on) i cs (leaves on c m)) q in
      then m (leaves on c m) (memory_after (machine_of on) cs (leaves on c m)) (call-keeps c m (did laws p k m fit c) same own)
      (calls-keep cs (leaves on c m) (fit-kept laws p k m fit c) e' q')

-- one list of calls after another
module _ {M : Type 0} (on : Machine M Call) where
  begins-on : (cs ds : List Call) (m : M) → begins on (cs ++ ds) m ≡ begins on cs m + begins on ds (memory_after on cs m)
  unfolding begins memory_after
  begins-on [] ds m = omega arith
  begins-on (c ∷ cs) ds m = go (began on (event_of on c m)) _ _ _ (begins-on cs ds (on.leaves c m))
    where
      go : (b : Bool) (x y z : ℕ) → x ≡ y + z → cond b (suc x) x ≡ cond b (suc y) y + z
      go true x y z e = omega (arith, e)
      go false x y z e = e

  releases-on : (i : ℕ) (cs ds : List Call) (m : M) → releases on i (cs ++ ds) m ≡ releases on i cs m + releases on i ds (memory_after on cs m)
  unfolding releases memory_after
  releases-on i [] ds m = omega arith
  releases-on i (c ∷ cs) ds m = go (cond (release_by i c) (accepted_said (on.says c m)) false) _ _ _ (releases-on i cs ds (on.leaves c m))
    where
      go : (b : Bool) (x y z : ℕ) → x ≡ y + z → one_more b x ≡ one_more b y + z
      go true x y z e = omega (arith, e)
      go false x y z e = e

-- A worker has something to release in m, the rings that it fills are never damaged in the run that goes on from there, and along its calls the Release is
-- postponed. Then a ring of these that is full has room once an owner's P accepted Fetches have taken its head.
module _ {F : Family} (on : Machine (Mem F) Call) (p k filler : ℕ) (m : Mem F) (due : Due filler m) (slots : 0 < k)
    (sound : (o : ℕ) → o < p → (cs : List Call) → Sound k (ends_in (memory_after on cs m) (ring_number p o filler)))
    (later : (cs ds : List Call) → ◌≡◌ {A = ℕ} (begins on ds (memory_after on cs m)) 0 → ◌≡◌ {A = ℕ} (releases on filler ds (memory_after on cs m)) 0
    → Postpones p filler (memory_after on cs m) (memory_after on ds (memory_after on cs m)))
    (fetched : F.Item → Said) where
  pub since : (cs : List Call) → ◌≡◌ {A = ℕ} (begins on cs m) 0 → ◌≡◌ {A = ℕ} (releases on filler cs m) 0 → Postponed p filler m (memory_after on cs m)
  unfolding memory_after
  since cs e q = later [] cs e q due

  module _ (owner : ℕ) (owns : owner < p) where
    abbrev ring : ℕ
    ring = ring_number p owner filler

    module _ (t : F.Item) (behind : List F.Item) (bound : ℕ) (further : List Call)
        (w : TakenWithin on queue_in fetched p k owner filler t behind bound further m) where
      -- the calls up to the one that takes t, and those after it
      up_to : List Call
      up_to = w.earlier ++ (step_call w.limits p k owner Fetch ∷ [])

      parts : further ≡ up_to ++ w.later
      unfolding up_to
      parts = w.split ∙ sym (append_assoc w.earlier (step_call w.limits p k owner Fetch ∷ []) w.later)

      -- it leaves the ring less than full
      room-then : (ends_in (memory_after on up_to m) ring).count < k
      unfolding up_to memory_after
      room-then =
          omega (
            arith,
            capacity-is k,
            queue-most F.no_item k (rings_in (memory_after on w.earlier m)) ring (sound owner owns w.earlier),
            ap length w.first,
            ap length w.taken,
            sym (length-count F.no_item k (rings_in (memory_after on up_to m)) ring (sound owner owns up_to))
                ∙ ap (λ (m' : Mem F). length (queue_in p k m' owner filler)) (memory-on on w.earlier (step_call w.limits p k owner Fetch ∷ []) m),
          )

      -- and so it stays
      room-left : ◌≡◌ {A = ℕ} (begins on further m) 0 → ◌≡◌ {A = ℕ} (releases on filler further m) 0
          → ¬ (Full k (ends_in (memory_after on further m) ring))
      room-left none mine full =
          omega (
            arith,
            room-then,
            full,
            ap (λ (cs : List Call). (ends_in (memory_after on cs m) ring).count) parts
                ∙ ap (λ (m' : Mem F). (ends_in m' ring).count) (memory-on on up_to w.later m),
            (later up_to w.later (omega (arith, begun)) (omega (arith, released)) (since up_to (omega (arith, begun)) (omega (arith, released))).due).counts owner owns,
          )
        where
          begun : ◌≡◌ {A = ℕ} (begins on up_to m + begins on w.later (memory_after on up_to m)) 0
          begun = sym (begins-on on up_to w.later m) ∙ ap (λ (cs : List Call). begins on cs m) (sym parts) ∙ none

          released : ◌≡◌ {A = ℕ} (releases on filler up_to m + releases on filler w.later (memory_after on up_to m)) 0
          released = sym (releases-on on filler up_to w.later m) ∙ ap (λ (cs : List Call). releases on filler cs m) (sym parts) ∙ mine

    -- fair fetching says that its head is taken
    pub room_at : (bound : ℕ) (further : List Call) → ◌≡◌ {A = ℕ} (begins on further m) 0 → ◌≡◌ {A = ℕ} (releases on filler further m) 0
        → ((t : F.Item) (behind : List F.Item) → queue_in p k m owner filler ≡ t ∷ behind
        → TakenWithin on queue_in fetched p k owner filler t behind bound further m)
        → Full k (ends_in m ring) → ¬ (Full k (ends_in (memory_after on further m) ring))
    unfolding memory_after
    room_at bound further none mine soon full = go (queue_in p k m owner filler) refl
      where
        go : (l : List F.Item) → queue_in p k m owner filler ≡ l → ¬ (Full k (ends_in (memory_after on further m) ring))
        go [] e = absurd (omega (arith, slots, full, (queue-empty F.no_item k (rings_in m) ring (sound owner owns [])).1 e))
        go (t ∷ behind) e = room-left t behind bound further (soon t behind e) none mine

-- How an answer is told from the rows that it follows: where the rows give n and d, X holds
pub record Tells (rows : List Refusal) (n d : ℕ) (X : Type 0) : Type 0 where
  pub given : Given rows n d → X

module _ {n d : ℕ} {X : Type 0} where
  pub tells-end : Tells [] n d X
  tells-end = record { given = λ g. absurd g }

  -- a row with another number
  pub tells-later : {r : Refusal} {rows : List Refusal} → ¬ (n ≡ r.number) → (Passed r → Tells rows n d X) → Tells (r ∷ rows) n d X
  tells-later {r} {rows} other rest = record { given = go }
    where
      go : Given (r ∷ rows) n d → X
      go (inl (e, c)) = absurd (other e)
      go (inr (q, g)) = (rest q).given g

  pub tells-here : {r : Refusal} {rows : List Refusal} → (r.condition d → X) → Tells rows n d X → Tells (r ∷ rows) n d X
  tells-here {r} {rows} here rest = record { given = go }
    where
      go : Given (r ∷ rows) n d → X
      go (inl (e, c)) = here c
      go (inr (q, g)) = rest.given g

-- rows of which none that is given has a number but 8
pub record Only8 (rows : List Refusal) : Type 0 where
  pub given : (n d : ℕ) → Given rows n d → n ≡ damaged

pub only_end : Only8 []
only_end = record { given = λ n d g. absurd g }

module _ {r : Refusal} {rows : List Refusal} where
  pub only-damaged : r.number ≡ damaged → Only8 rows → Only8 (r ∷ rows)
  only-damaged q rest = record { given = go }
    where
      go : (n d : ℕ) → Given (r ∷ rows) n d → n ≡ damaged
      go n d (inl (e, c)) = e ∙ q
      go n d (inr (_, g)) = rest.given n d g

  pub only-passed : Passed r → Only8 rows → Only8 (r ∷ rows)
  only-passed q rest = record { given = go }
    where
      go : (n d : ℕ) → Given (r ∷ rows) n d → n ≡ damaged
      go n d (inl (e, c)) = absurd (q d c)
      go n d (inr (_, g)) = rest.given n d g

-- such an answer that isn't 8 accepts
pub only-accepts : {rows : List Refusal} (said : Said) → Follows rows said → Only8 rows → ((d : ℕ) → ¬ (said ≡ refused damaged d)) → Acceptance said
only-accepts (refused n d) f o good = good d (ap (λ (x : ℕ). refused x d) (o.given n d ((f.refuses n d).0 refl)))
only-accepts (answered n vs) f o good = tt

-- A step of worker i with numbers and lists that fit: 9 with its phase unless that suits, else the own rows decide.
module _ {F : Family} (limits : Limits) (p k i : ℕ) (s : Step) (m : Mem F) {own : List Refusal} (fits : Fits limits p k m) (worker : i < p) where
  pub unsuited-row : {said : Said} → Follows (headed_rows limits p k i s m own) said → phase_in m i ≤ 2 → ¬ (phase_in m i ≡ suits s)
      → said ≡ refused wrong_phase (phase_in m i)
  unsuited-row f few n =
      (f.refuses wrong_phase (phase_in m i)).1
      (inr (
        λ d c. fits-within limits p k m fits c.1,
        inr (λ d c. c.1 fits.lengths, inr (λ d c. omega (arith, worker, c.1), inr (λ d c. omega (arith, few, c.1), inl (refl, (refl, n))))),
      ))

  pub suited-rows : phase_in m i ≡ suits s → Only8 own → Only8 (headed_rows limits p k i s m own)
  suited-rows e o =
      only-passed (λ d c. fits-within limits p k m fits c.1)
      (only-passed (λ d c. c.1 fits.lengths)
      (only-passed (λ d c. omega (arith, worker, c.1)) (only-damaged refl (only-passed (λ d c. c.1 e) o))))
