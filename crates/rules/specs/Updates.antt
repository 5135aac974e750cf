-- What an accepted step of a plain job writes, each update of one place of one lent list, by its name.
use Rattle.std.specs.Prelude.{ℕ, [], ◌∷◌, ℤ}
use Rattle.task.specs.declared.Ends.{Ends}
use Rattle.memory.specs.Family.{Places}
use Rattle.memory.specs.Field as list
use Rattle.memory.specs.Updates as updates
use Rattle.rules.specs.Memory.{plain}

abbrev pub Update : Type 0
Update = updates.Update plain

-- the degree of a task
abbrev pub put_degree : (task degree : ℕ) → Update
put_degree t d = updates.store list.degrees t d

-- a slot of the rings
abbrev pub put_slot : (place task : ℕ) → Update
put_slot x t = updates.store list.rings x t

-- head, tail and count of a ring, by its number
abbrev pub put_ends : (number : ℕ) → Ends → Update
put_ends q e = updates.store list.ends q e

-- the counter of a ring, by its number
abbrev pub put_counter : (number : ℕ) → ℤ → Update
put_counter q c = updates.store list.counters q c

-- a place of the completed buffers
abbrev pub put_buffer : (place task : ℕ) → Update
put_buffer x t = updates.store list.buffers x t

-- an entry of the record: "(task, worker)"
abbrev pub put_entry : (number task worker : ℕ) → Update
put_entry n t w = updates.store list.executed n (t ∷ w ∷ [])

-- the run words
abbrev pub put_entries : (entries : ℕ) → Update
put_entries n = updates.store list.run 0 n

abbrev pub put_accepted : (accepted : ℕ) → Update
put_accepted n = updates.store list.run 1 n

-- a worker's row, part by part: phase and held task, pointer, places of the buffer
abbrev pub put_hand : (worker phase held : ℕ) → Update
put_hand i phase held = updates.store list.rows i (updates.hand (record { phase = phase; held = held }))

abbrev pub put_pointer : (worker pointer : ℕ) → Update
put_pointer i x = updates.store list.rows i (updates.pointer x)

abbrev pub put_places : (worker : ℕ) → Places → Update
put_places i x = updates.store list.rows i (updates.places x)
