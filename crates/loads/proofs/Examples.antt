-- Load windows, computed: the diamond's record, m by m, and calls that are refused.
use Prim.Native.Nat.{ℕ}
use mathlib.Core.Path.{◌≡◌, refl}
use mathlib.Core.List.{List, [], ◌∷◌}
use lib.ListN.{replicate}
use Rattle.lists.specs.Lists.{joined, tabulate}
use Rattle.lists.specs.Sums.{sum_to}
use Rattle.task.specs.Types.{engine, preview, capped}
use Rattle.task.specs.Refusals.{Said, refused, accepted, answer_says}
use Rattle.task.specs.declared.Limits.{Limits}
use Rattle.loads.specs.Windows.{added_by, load_in, window_sums, largest_of, smallest_of, spread_of, with_spread, windows, counts_fit, entry_fits, record_fits, windows_answer, Shown, window_loads}

-- the lent lists and numbers, what is answered and the result words after the call
record Example : Type 0 where
  limits : Limits
  workers : ℕ
  span : ℕ
  weights : List ℕ
  executed : List ℕ
  run : List ℕ
  before : List ℕ
  said : Said
  after : List ℕ

abbrev shows : ℕ → ℕ → List ℕ → List ℕ → List ℕ → List ℕ → List ℕ → Example
shows p m w e n b a =
    record { limits = engine; workers = p; span = m; weights = w; executed = e; run = n; before = b; said = accepted; after = a }

abbrev refuses : ℕ → ℕ → List ℕ → List ℕ → List ℕ → List ℕ → ℕ → Example
refuses p m w e n b x =
    record { limits = engine; workers = p; span = m; weights = w; executed = e; run = n; before = b; said = refused x 0; after = b }

abbrev call : Example → Shown
call x = window_loads x.limits x.workers x.span x.weights x.executed x.run x.before

-- the diamond's weights and its record (0,0) (2,1) (1,0) (3,0), and room for so many words
abbrev diamond : List ℕ
diamond = 0 ∷ 5 ∷ 3 ∷ 0 ∷ []

abbrev listing : List ℕ
listing = 0 ∷ 0 ∷ 2 ∷ 1 ∷ 1 ∷ 0 ∷ 3 ∷ 0 ∷ []

-- the weak diamond's, (task, predecessor, worker) to an entry
abbrev copies : List ℕ
copies = 0 ∷ 65535 ∷ 0 ∷ 2 ∷ 0 ∷ 1 ∷ 1 ∷ 0 ∷ 0 ∷ 3 ∷ 2 ∷ 0 ∷ 3 ∷ 1 ∷ 0 ∷ replicate 9 0

abbrev done : List ℕ
done = 4 ∷ 16 ∷ []

abbrev room : ℕ → List ℕ
room n = replicate n 7

abbrev table : List Example
table =
    shows 2 2 diamond listing done (room 9) (0 ∷ 3 ∷ 3 ∷ 5 ∷ 3 ∷ 2 ∷ 5 ∷ 0 ∷ 5 ∷ [])
    ∷ shows 2 1 diamond listing done (room 12) (0 ∷ 0 ∷ 0 ∷ 0 ∷ 3 ∷ 3 ∷ 5 ∷ 0 ∷ 5 ∷ 0 ∷ 0 ∷ 0 ∷ [])
    ∷ shows 2 4 diamond listing done (room 3) (5 ∷ 3 ∷ 2 ∷ [])
    -- a worker more than begin's: "each worker" has a sum
    ∷ shows 3 4 diamond listing done (room 4) (5 ∷ 3 ∷ 0 ∷ 5 ∷ [])
    -- one worker fewer, and the record names it
    ∷ refuses 1 4 diamond listing done (room 2) 8
    -- another P with the result list of 2 workers and m 2
    ∷ refuses 3 2 diamond listing done (room 9) 1
    ∷ refuses 1 2 diamond listing done (room 9) 1
    -- two entries recorded; the accepted word isn't read
    ∷ shows 2 2 diamond listing (2 ∷ 65536 ∷ []) (room 3) (0 ∷ 3 ∷ 3 ∷ [])
    -- a task recorded twice counts twice
    ∷ shows 2 4 diamond (1 ∷ 0 ∷ 1 ∷ 0 ∷ 2 ∷ 1 ∷ 1 ∷ 1 ∷ []) done (room 3) (10 ∷ 8 ∷ 2 ∷ [])
    -- 15: m 0 and above the entries, whatever the results' length; no entries
    ∷ refuses 2 0 diamond listing done (room 9) 15
    ∷ refuses 2 5 diamond listing done (room 9) 15
    ∷ refuses 2 5 diamond listing done [] 15
    ∷ refuses 2 0 diamond listing (0 ∷ 0 ∷ []) [] 15
    ∷ refuses 2 1 diamond listing (0 ∷ 0 ∷ []) [] 15
    ∷ refuses 2 0 [] [] (0 ∷ 0 ∷ []) [] 15
    -- entries over N come before it
    ∷ refuses 2 0 diamond listing (5 ∷ 16 ∷ []) (room 9) 8
    ∷ refuses 2 0 [] [] (1 ∷ 0 ∷ []) [] 8
    -- a recorded task that isn't there: results of 10 words and of 8, and then of 9
    ∷ refuses 2 2 diamond (0 ∷ 0 ∷ 2 ∷ 1 ∷ 4 ∷ 0 ∷ 3 ∷ 0 ∷ []) done (room 10) 1
    ∷ refuses 2 2 diamond (0 ∷ 0 ∷ 2 ∷ 1 ∷ 4 ∷ 0 ∷ 3 ∷ 0 ∷ []) done (room 8) 1
    ∷ refuses 2 2 diamond (0 ∷ 0 ∷ 2 ∷ 1 ∷ 4 ∷ 0 ∷ 3 ∷ 0 ∷ []) done (room 9) 8
    -- the last entry alone; a worker; a weight over 65,535
    ∷ refuses 2 2 diamond (0 ∷ 0 ∷ 2 ∷ 1 ∷ 1 ∷ 0 ∷ 65535 ∷ 0 ∷ []) done (room 9) 8
    ∷ refuses 2 2 diamond (0 ∷ 0 ∷ 2 ∷ 2 ∷ 1 ∷ 0 ∷ 3 ∷ 0 ∷ []) done (room 9) 8
    ∷ refuses 2 2 (0 ∷ 5 ∷ 65536 ∷ 0 ∷ []) listing done (room 9) 8
    -- behind three entries neither a bad task nor a heavy weight counts
    ∷ shows 2 2 diamond (0 ∷ 0 ∷ 2 ∷ 1 ∷ 1 ∷ 0 ∷ 4 ∷ 9 ∷ []) (3 ∷ 12 ∷ []) (room 6) (0 ∷ 3 ∷ 3 ∷ 5 ∷ 3 ∷ 2 ∷ [])
    ∷ shows 2 2 (0 ∷ 5 ∷ 3 ∷ 65536 ∷ []) listing (3 ∷ 12 ∷ []) (room 6) (0 ∷ 3 ∷ 3 ∷ 5 ∷ 3 ∷ 2 ∷ [])
    -- 2 before 1: no worker, 17 workers, each with a short record; then 1 before 8 and 15
    ∷ refuses 0 2 diamond [] done (room 9) 2
    ∷ refuses 17 2 diamond [] done (room 9) 2
    ∷ refuses 2 0 diamond (0 ∷ 0 ∷ []) (5 ∷ 16 ∷ []) (room 9) 1
    ∷ refuses 2 0 diamond listing (5 ∷ 16 ∷ 0 ∷ []) (room 9) 1
    -- a weak job's lists, of 24 words for its five copies and three run words; and each of the two alone
    ∷ refuses 2 2 diamond copies (5 ∷ 19 ∷ 1 ∷ []) (room 12) 1
    ∷ refuses 2 2 diamond copies (4 ∷ 19 ∷ []) (room 9) 1
    ∷ refuses 2 2 diamond listing (4 ∷ 16 ∷ 1 ∷ []) (room 9) 1
    -- smaller limits
    ∷ record {
      limits = preview;
      workers = 5;
      span = 4;
      weights = diamond;
      executed = listing;
      run = done;
      before = [];
      said = refused 2 0;
      after = [];
    }
    ∷ []

abbrev Each : (Example → Type 0) → List Example → Type 0
Each P [] = Unit {0}
Each P (x ∷ l) = P x × Each P l

pub windows-computed : Each (λ x. (answer_says (call x).answer ≡ x.said) × ((call x).results ≡ x.after)) table
unfolding joined tabulate sum_to capped added_by load_in window_sums largest_of smallest_of spread_of with_spread windows counts_fit entry_fits record_fits windows_answer window_loads
windows-computed =
    ((refl, refl), ((refl, refl), ((refl, refl), ((refl, refl), ((refl, refl), ((refl, refl), ((refl, refl), ((refl, refl), ((refl, refl), ((refl, refl), ((refl, refl), ((refl, refl), ((refl, refl), ((refl, refl), ((refl, refl), ((refl, refl), ((refl, refl), ((refl, refl), ((refl, refl), ((refl, refl), ((refl, refl), ((refl, refl), ((refl, refl), ((refl, refl), ((refl, refl), ((refl, refl), ((refl, refl), ((refl, refl), ((refl, refl), ((refl, refl), ((refl, refl), ((refl, refl), ((refl, refl), tt)))))))))))))))))))))))))))))))))
