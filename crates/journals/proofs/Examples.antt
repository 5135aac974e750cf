-- The example of `machine` under a journal of three groups: it has the laws, so they ask nothing impossible; and lists of its calls, computed.
use Prim.Native.Nat.{ℕ, suc, ◌+◌, ◌*◌, ◌-◌, ◌≤◌, ◌<◌}
use mathlib.Core.Path.{◌≡◌, refl, ap}
use mathlib.Core.Bool.{Bool, true, false, cond}
use mathlib.Core.List.{List, [], ◌∷◌, ◌++◌}
use native.Mathlib.Omega.{arith}
use lib.ListN.{get_or, length, replicate}
use lib.Dec.{eqb, ltb}
use borrow.Author.Tests.{eq-eqb, ltb-true}
use Rattle.lists.proofs.Apart.{unequal}
use Rattle.task.specs.Refusals.{Said, refused, answered, accepted}
use Rattle.machine.specs.Machine.{beginning, forward, back, aside, lookup, Event, accepted_said, accepted_of, began, memory_after, recalled, events_after, begun_in}
use Rattle.machine.specs.Standing.{calls_of, without_last, standing, steps_in, backs_in}
use Rattle.machine.proofs.Examples.{Store, store_of, Call, clear, write, set_mark, read, answer, kind_of, store}
use Rattle.memory.specs.Updates.{store_words, words_from}
use Rattle.journals.specs.Journal.{Journaled, journaled_of, WithBack, made, back_call, Keeping, Accepts, fits, says, moves, leaves, journaled, Laws}
use Rattle.journals.specs.Net.{below, stands_of, Net, only_own}
use Rattle.journals.proofs.Net.{net}

-- a step keeps a 1 and the word before it
abbrev words_of : Call → Store → List ℕ
words_of clear m = []
words_of (write n) m = 1 ∷ m.word ∷ 0 ∷ 0 ∷ 0 ∷ 0 ∷ 0 ∷ 0 ∷ []
words_of (set_mark k) m = []
words_of read m = []

-- a step back is handed a number, 9 at most
abbrev undo_says : ℕ → List ℕ → Store → Said
undo_says b g m = cond (ltb 9 b) (refused 2 0) (cond (eqb m.steps 0) (refused 16 0) (cond (eqb (get_or g 0 0) 1) accepted (refused 8 0)))

abbrev undo_leaves : ℕ → List ℕ → Store → Store
undo_leaves b g m = store_of (get_or g 1 0) m.mark (m.steps - 1)

abbrev keeping : Keeping Store Call ℕ
keeping = record { size = λ m. 24; count = λ m. m.steps; words = words_of; back_says = undo_says; back_leaves = undo_leaves }

abbrev kept : WithBack Call ℕ → Journaled Store → Journaled Store
kept = leaves store keeping

-- The laws, call by call.
store-onward : (c : Call) → ¬ (kind_of c ≡ back)
store-onward clear q = unequal cc
store-onward (write n) q = unequal cc
store-onward (set_mark k) q = unequal cc
store-onward read q = unequal cc

store-looks : (c : Call) (m : Store) → kind_of c ≡ lookup → store.leaves c m ≡ m
store-looks clear m q = unequal cc
store-looks (write n) m q = unequal cc
store-looks (set_mark k) m q = unequal cc
store-looks read m q = refl

store-begun : (c : Call) (m : Store) → Accepts store beginning c m → ◌≡◌ {A = ℕ} (store.leaves c m).steps 0
store-begun clear m a = refl
store-begun (write n) m a = unequal cc
store-begun (set_mark k) m a = unequal cc
store-begun read m a = unequal cc

-- of a step, of a call aside
module _ (P : Call → Store → Type 0) where
  each_step : ((n : ℕ) (m : Store) → accepted_said (answer (write n) m) ≡ true → P (write n) m) → (c : Call) (m : Store) → Accepts store forward c m → P c m
  each_step f clear m a = unequal cc
  each_step f (write n) m a = f n m a.1
  each_step f (set_mark k) m a = unequal cc
  each_step f read m a = unequal cc

  each-aside : ((k : ℕ) (m : Store) → accepted_said (answer (set_mark k) m) ≡ true → P (set_mark k) m) → (c : Call) (m : Store) → Accepts store aside c m → P c m
  each-aside f clear m a = unequal cc
  each-aside f (write n) m a = unequal cc
  each-aside f (set_mark k) m a = f k m a.1
  each-aside f read m a = unequal cc

step_room : (n : ℕ) (m : Store) → accepted_said (answer (write n) m) ≡ true → m.steps < 3
step_room n m = go (ltb 9 n) (eqb n 0) (ltb m.steps 3) refl
  where
    go : (a b c : Bool) → ltb m.steps 3 ≡ c → accepted_said (cond a (refused 2 0) (cond b (refused 9 0) (cond c accepted (refused 8 0)))) ≡ true
        → m.steps < 3
    go true b c e h = unequal cc
    go false true c e h = unequal cc
    go false false true e h = ltb-true m.steps 3 e
    go false false false e h = unequal cc

undo-none : (b : ℕ) (g : List ℕ) (m : Store) → ◌≡◌ {A = ℕ} m.steps 0 → accepted_said (undo_says b g m) ≡ false
undo-none b g m z = rw (eq-eqb m.steps 0 z) (go (ltb 9 b))
  where
    go : (a : Bool) → accepted_said (cond a (refused 2 0) (refused 16 0)) ≡ false
    go true = refl
    go false = refl

store-laws : Laws store keeping
store-laws =
    record {
      onward = store-onward;
      looks = store-looks;
      begun = store-begun;
      more = each_step (λ c m. (store.leaves c m).steps ≡ suc m.steps) (λ n m a. rw a refl);
      as_many = each-aside (λ c m. (store.leaves c m).steps ≡ m.steps) (λ k m a. rw a refl);
      sized = λ c m a. refl;
      back-sized = λ b g m a. refl;
      eight = each_step (λ c m. ◌≡◌ {A = ℕ} (length (words_of c m)) 8) (λ n m a. refl);
      room = each_step (λ c m. 8 * m.steps + 8 ≤ 24) (λ n m a. omega (arith, step_room n m a));
      none = undo-none;
      exact = λ b c m h t. each_step (λ c m. undo_leaves b (words_of c m) (store.leaves c m) ≡ m)
          (λ n m a. rw a (ap (store_of m.word m.mark) (omega arith))) c m h;
      unseen = λ b g. each-aside (λ c m. undo_says b g (store.leaves c m) ≡ undo_says b g m) (λ k m a. rw a refl);
      commutes = λ b g c m h t. each-aside (λ c m. undo_leaves b g (store.leaves c m) ≡ store.leaves c (undo_leaves b g m)) (λ k m a. rw a refl) c m h;
      answers-too = λ b g c m h t. each-aside (λ c m. answer c (undo_leaves b g m) ≡ answer c m) (λ k m a. refl) c m h;
    }

-- so of any list of its calls, from its begun memory on
pub store-net : (cs : List (WithBack Call ℕ)) (j : List ℕ) → length j ≡ 24
    → let x = journaled_of (store_of 0 0 0) j in
    Net store keeping (store_of 0 0 0) (begun_in (journaled store keeping) cs x x).memory (memory_after (journaled store keeping) cs x)
    (events_after (journaled store keeping) cs x [])
store-net cs j e = net store keeping store-laws (store_of 0 0 0) j e cs refl

-- Lists of calls, from memory on that no begin left.
abbrev found : Journaled Store
found = journaled_of (store_of 4 4 1) (replicate 24 5)

abbrev lists_of : List (WithBack Call ℕ) → Journaled Store
lists_of cs = memory_after (journaled store keeping) cs found

abbrev events_of : List (WithBack Call ℕ) → List (Event (WithBack Call ℕ))
events_of cs = events_after (journaled store keeping) cs found []

abbrev stands : List (WithBack Call ℕ) → List Call
stands cs = calls_of (stands_of store keeping (events_of cs))

-- begin, and of four steps three taken back, with marks set, a refused step and a lookup between and a step back too many
abbrev mixed : List (WithBack Call ℕ)
mixed =
    made clear ∷ made (write 5) ∷ made (set_mark 3) ∷ made (write 6) ∷ back_call 0 ∷ made (write 0) ∷ made read ∷ made (write 7) ∷ made (set_mark 4)
    ∷ back_call 0 ∷ back_call 0 ∷ back_call 0 ∷ made (write 8) ∷ []

-- a begin in the middle
abbrev again : List (WithBack Call ℕ)
again = made clear ∷ made (write 5) ∷ made (write 6) ∷ made clear ∷ back_call 0 ∷ made (write 7) ∷ []

abbrev group : ℕ → List ℕ
group w = 1 ∷ w ∷ 0 ∷ 0 ∷ 0 ∷ 0 ∷ 0 ∷ 0 ∷ []

record Computed : Type 0 where
  -- "begin zeroes it"
  begun : lists_of (made clear ∷ []) ≡ journaled_of (store_of 0 0 0) (replicate 24 0)
  -- "steps back keep it", and the marks
  taken : lists_of (made clear ∷ made (write 5) ∷ made (write 6) ∷ made (set_mark 3) ∷ back_call 0 ∷ [])
      ≡ journaled_of (store_of 5 3 1) (group 0 ++ (group 5 ++ replicate 8 0))
  lists : lists_of mixed ≡ journaled_of (store_of 8 4 1) (group 0 ++ (group 5 ++ replicate 8 0))
  standing : stands mixed ≡ set_mark 3 ∷ set_mark 4 ∷ write 8 ∷ []
  -- 4 accepted steps less 3 taken back
  counts : (◌≡◌ {A = ℕ} (steps_in (journaled store keeping) (events_of mixed)) 4)
      × (◌≡◌ {A = ℕ} (backs_in (journaled store keeping) (events_of mixed)) 3)
      × (◌≡◌ {A = ℕ} (steps_in store (stands_of store keeping (events_of mixed))) 1)
  -- no step before the last begin is taken back
  since : (lists_of again ≡ journaled_of (store_of 7 0 1) (group 0 ++ replicate 16 0)) × (stands again ≡ write 7 ∷ [])

computed : Computed
unfolding store_words words_from accepted_of began memory_after recalled events_after calls_of without_last standing fits says moves leaves below
computed = record { begun = refl; taken = refl; lists = refl; standing = refl; counts = (refl, refl, refl); since = (refl, refl) }

-- a journal of 23 words
abbrev short : Journaled Store
short = journaled_of (store_of 4 4 1) (replicate 23 5)

abbrev heard : WithBack Call ℕ → Journaled Store → Said
heard = says store keeping

record Refused : Type 0 where
  -- 1 after 2 and before the rest; a lookup isn't lent the journal
  lengths : (heard (made clear) short ≡ refused 1 0) × (heard (made (write 5)) short ≡ refused 1 0) × (heard (made (set_mark 3)) short ≡ refused 1 0)
      × (heard (back_call 0) short ≡ refused 1 0) × (heard (made read) short ≡ answered 1 (4 ∷ []))
  limits : (heard (made (write 10)) short ≡ refused 2 0) × (heard (back_call 10) short ≡ refused 2 0)
  rest : (heard (made (write 0)) short ≡ refused 1 0) × (heard (made (set_mark 4)) short ≡ refused 1 0)
  -- 16 at the begun state; words that no step wrote
  none : heard (back_call 0) (lists_of (made clear ∷ [])) ≡ refused 16 0
  damaged : heard (back_call 0) found ≡ refused 8 0
  -- a refused call leaves every word
  still : (kept (made (write 0)) found ≡ found) × (kept (made clear) short ≡ short) × (kept (back_call 0) found ≡ found)

refused_all : Refused
unfolding store_words words_from memory_after fits says moves leaves
refused_all =
    record {
      lengths = (refl, refl, refl, refl, refl);
      limits = (refl, refl);
      rest = (refl, refl);
      none = refl;
      damaged = refl;
      still = (refl, refl, refl);
    }

-- a memory with a step that no call of theirs made
abbrev stepped : Journaled Store
stepped = journaled_of (store_of 5 0 1) (group 0 ++ replicate 16 0)

record Own : Type 0 where
  theirs : only_own store keeping (made (write 6) ∷ back_call 0 ∷ made (write 7) ∷ []) stepped [] ≡ true
  another : only_own store keeping (made (write 6) ∷ back_call 0 ∷ back_call 0 ∷ []) stepped [] ≡ false
  -- a refused one takes nothing back, and a begin leaves nothing to be taken back
  none : only_own store keeping (made clear ∷ back_call 0 ∷ []) stepped [] ≡ true

owns : Own
unfolding store_words words_from accepted_of began recalled without_last standing fits says moves leaves below only_own
owns = record { theirs = refl; another = refl; none = refl }
