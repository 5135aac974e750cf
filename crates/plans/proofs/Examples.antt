-- Computed examples, of the family of pairs (`crates/memory/proofs/Examples.antt`): where words stand, what the tests pass, and what a begin leaves.
use Prim.Native.Nat.{ℕ}
use mathlib.Core.Path.{◌≡◌, refl}
use mathlib.Core.Bool.{true, false}
use mathlib.Core.List.{[], ◌∷◌}
use lib.IntN.{pos, negsuc}
use Rattle.std.specs.Prelude.{Err, Ok}
use Rattle.task.specs.declared.refusal.Refusal.TheVariants.{TooManyRoots}
use Rattle.ring.specs.Ring.{slot_at, ends_at}
use Rattle.memory.specs.Memory.{Mem, mem_of}
use Rattle.memory.proofs.Examples.{pair, row_of, pairs, small}
use Rattle.plans.specs.Memory.{ring_number, head_item, succ_count, buffer_at, phase_in, held, pointer_in, entries_in, accepted_in, oldest, successor}
use Rattle.plans.specs.Words.{task_fits, phase_fits, pointer_fits, counter_fits, degree_fits, places_fit, join_fits, cursor_fits, range_fits, weight_fits}
use Rattle.plans.specs.Begin.{begin_result}

-- two workers, two slots, three tasks, edges 0→1 and 0→2: worker 1 has completed task 0 and then task 2, and stands at the second successor of task 0
abbrev pub forked : Mem pairs
forked =
    mem_of (5 ∷ 6 ∷ 7 ∷ []) (0 ∷ 0 ∷ 1 ∷ 2 ∷ []) (0 ∷ 0 ∷ []) (0 ∷ 2 ∷ 2 ∷ 2 ∷ []) (1 ∷ 2 ∷ []) (0 ∷ 1 ∷ 3 ∷ []) (9 ∷ 9 ∷ 9 ∷ [])
    (pair 0 0 ∷ pair 1 1 ∷ pair 2 2 ∷ pair 3 3 ∷ pair 4 4 ∷ pair 5 5 ∷ pair 6 6 ∷ pair 7 7 ∷ [])
    (0 ∷ 0 ∷ 0 ∷ 1 ∷ 0 ∷ 1 ∷ 0 ∷ 1 ∷ 1 ∷ 0 ∷ 0 ∷ 2 ∷ []) (pos 0 ∷ pos 0 ∷ pos 0 ∷ pos 0 ∷ []) (8 ∷ 8 ∷ 8 ∷ 0 ∷ 2 ∷ 8 ∷ [])
    (0 ∷ 0 ∷ 1 ∷ 2 ∷ 0 ∷ 1 ∷ []) (2 ∷ 6 ∷ 1 ∷ []) (row_of 1 (pair 1 7) 1 0 0 0 ∷ row_of 0 (pair 8 8) 0 0 2 1 ∷ [])

pub record Examples : Type 0 where
  -- "the ring of owner i filled by worker j begins at (i·P + j)·K"
  pub number : ◌≡◌ {A = ℕ} (ring_number 3 1 2) 5
  -- the item at the head of the ring of owner 0 filled by worker 1
  pub head : head_item 2 forked (ring_number 2 0 1) ≡ pair 3 3
  -- worker 1's oldest task, and its successor at the cursor
  pub old : oldest forked 1 ≡ 0
  pub next : successor forked 1 ≡ 2
  pub counted : (succ_count forked 0 ≡ 2) × (buffer_at forked 1 1 ≡ 4)
  -- the parts of worker 0's row
  pub parts : (phase_in forked 0 ≡ 1) × ((held forked 0 ≡ pair 1 7) × (pointer_in forked 0 ≡ 1))
  pub run : (entries_in forked ≡ 2) × (accepted_in forked ≡ 6)
  -- each test at its limit, and beyond it
  pub task : (task_fits forked 2 ≡ true) × (task_fits forked 3 ≡ false)
  pub phase : (phase_fits 2 ≡ true) × (phase_fits 3 ≡ false)
  pub pointer : (pointer_fits 2 1 ≡ true) × (pointer_fits 2 2 ≡ false)
  pub counter : (counter_fits (negsuc 1073741823) ≡ true) × ((counter_fits (negsuc 1073741824) ≡ false)
      × ((counter_fits (pos 1073741824) ≡ true) × (counter_fits (pos 1073741825) ≡ false)))
  pub degree : (degree_fits forked 0 ≡ false) × ((degree_fits forked 1 ≡ true) × ((degree_fits forked 3 ≡ true) × (degree_fits forked 4 ≡ false)))
  pub places : (places_fit forked 3 3 ≡ true) × ((places_fit forked 2 1 ≡ false) × (places_fit forked 0 4 ≡ false))
  pub joins : (join_fits forked 2 ≡ true) × (join_fits forked 3 ≡ false)
  pub cursor : (cursor_fits forked 0 1 ≡ true) × (cursor_fits forked 0 2 ≡ false)
  pub range : (range_fits forked 0 ≡ true) × (range_fits small 0 ≡ true)
  pub weight : weight_fits forked 2 ≡ true
  -- a refused begin leaves the memory, an accepted one what is laid down
  pub refused : (begin_result (Err (TooManyRoots 5)) forked small).memory ≡ small
  pub begins : (begin_result (Ok tt) forked small).memory ≡ forked

pub examples : Examples
unfolding slot_at ends_at
examples =
    record {
      number = refl;
      head = refl;
      old = refl;
      next = refl;
      counted = (refl, refl);
      parts = (refl, (refl, refl));
      run = (refl, refl);
      task = (refl, refl);
      phase = (refl, refl);
      pointer = (refl, refl);
      counter = (refl, (refl, (refl, refl)));
      degree = (refl, (refl, (refl, refl)));
      places = (refl, (refl, refl));
      joins = (refl, refl);
      cursor = (refl, refl);
      range = (refl, refl);
      weight = refl;
      refused = refl;
      begins = refl;
    }
