-- A machine with a journal, over any machine without one: "Each accepted step writes eight words, laid out in docs/, in a lent journal .. (begin zeroes
-- it, steps back keep it), and a new call takes the last step back". The memory below the journal, its calls and all that is promised of them stay.
use Rattle.std.specs.Prelude.{ℕ, suc, ◌+◌, ◌*◌, ◌-◌, ◌≤◌, ◌≡◌, Bool, true, false, cond, List, length, replicate, eqb}
use Rattle.task.specs.Refusals.{Said, refused, answered, wrong_length, beyond_limit}
use Rattle.machine.specs.Machine.{Kind, beginning, forward, back, aside, lookup, Machine, accepted_said}
use Rattle.memory.specs.Updates.{store_words, words_from}

-- the lent lists of a call: those without the journal, and the journal
pub record Journaled (M : Type 0) : Type 0 where
  pub memory : M
  -- eight words for each step
  pub journal : List ℕ

abbrev pub journaled_of : {M : Type 0} → M → List ℕ → Journaled M
journaled_of m j = record { memory = m; journal = j }

-- a call of the machine below, or a step back
pub data WithBack (C B : Type 0) : Type 0 where
  made : C → WithBack C B
  back_call : B → WithBack C B

-- where the group of the step stands that finds n accepted steps, and its eight words
abbrev pub group_place : ℕ → ℕ
group_place n = 8 * n

abbrev pub group_at : List ℕ → ℕ → List ℕ
group_at j n = words_from j (group_place n) 8

-- What a family says of its journal. B is what a step back is handed, as limits, P and K.
pub record Keeping (M C B : Type 0) : Type 0 where
  -- how many words the journal has
  pub size : M → ℕ
  -- the accepted word
  pub count : M → ℕ
  -- the eight words of a step that is accepted in this memory
  pub words : C → M → List ℕ
  -- a step back that finds these eight words
  pub back_says : B → List ℕ → M → Said
  pub back_leaves : B → List ℕ → M → M

-- "a lent length isn't the stated one", the journal's too: after 2 and before all else
abbrev pub lent_too : Bool → Said → Said
lent_too true said = said
lent_too false (refused n d) = cond (eqb n beyond_limit) (refused n d) (refused wrong_length 0)
lent_too false (answered k vs) = refused wrong_length 0

-- an accepted call of the kind
abbrev pub Accepts : {M C : Type 0} → Machine M C → Kind → C → M → Type 0
Accepts on k c m = (on.kind c ≡ k) × (accepted_said (on.says c m) ≡ true)

module _ {M C B : Type 0} (on : Machine M C) (by : Keeping M C B) where
  unfoldable pub fits : Journaled M → Bool
  fits x = eqb (length x.journal) (by.size x.memory)

  -- the group of the last step
  abbrev pub last : Journaled M → List ℕ
  last x = group_at x.journal (by.count x.memory - 1)

  -- a lookup isn't lent the journal
  abbrev pub says_by : Kind → C → Journaled M → Said
  says_by beginning c x = lent_too (fits x) (on.says c x.memory)
  says_by forward c x = lent_too (fits x) (on.says c x.memory)
  says_by back c x = lent_too (fits x) (on.says c x.memory)
  says_by aside c x = lent_too (fits x) (on.says c x.memory)
  says_by lookup c x = on.says c x.memory

  unfoldable pub says : WithBack C B → Journaled M → Said
  says (made c) x = says_by (on.kind c) c x
  says (back_call b) x = lent_too (fits x) (by.back_says b (last x) x.memory)

  -- what an accepted call leaves in the journal
  abbrev pub journal_by : Kind → C → Journaled M → List ℕ
  journal_by beginning c x = replicate (length x.journal) 0
  journal_by forward c x = store_words x.journal (group_place (by.count x.memory)) (by.words c x.memory)
  journal_by back c x = x.journal
  journal_by aside c x = x.journal
  journal_by lookup c x = x.journal

  unfoldable pub moves : WithBack C B → Journaled M → Journaled M
  moves (made c) x = journaled_of (on.leaves c x.memory) (journal_by (on.kind c) c x)
  moves (back_call b) x = journaled_of (by.back_leaves b (last x) x.memory) x.journal

  -- a refused call leaves every word
  unfoldable pub leaves : WithBack C B → Journaled M → Journaled M
  leaves c x = cond (accepted_said (says c x)) (moves c x) x

  abbrev pub kind_of : WithBack C B → Kind
  kind_of (made c) = on.kind c
  kind_of (back_call b) = back

  abbrev pub journaled : Machine (Journaled M) (WithBack C B)
  journaled = record { says = says; leaves = leaves; kind = kind_of }

  -- an accepted step back by these words
  abbrev pub TakesBack : B → List ℕ → M → Type 0
  TakesBack b g m = accepted_said (by.back_says b g m) ≡ true

  -- the laws of one call: all that a family has to show
  pub record Laws : Type 0 where
    -- below the journal no step is taken back, and a lookup writes nothing
    pub onward : (c : C) → ¬ (on.kind c ≡ back)
    pub looks : (c : C) (m : M) → on.kind c ≡ lookup → on.leaves c m ≡ m
    -- a begin counts from 0, a step one more, a call aside none
    pub begun : (c : C) (m : M) → Accepts on beginning c m → ◌≡◌ {A = ℕ} (by.count (on.leaves c m)) 0
    pub more : (c : C) (m : M) → Accepts on forward c m → by.count (on.leaves c m) ≡ suc (by.count m)
    pub as_many : (c : C) (m : M) → Accepts on aside c m → by.count (on.leaves c m) ≡ by.count m
    -- the journal's stated length stays; a step has eight words and finds room for them
    pub sized : (c : C) (m : M) → accepted_said (on.says c m) ≡ true → by.size (on.leaves c m) ≡ by.size m
    pub back-sized : (b : B) (g : List ℕ) (m : M) → TakesBack b g m → by.size (by.back_leaves b g m) ≡ by.size m
    pub eight : (c : C) (m : M) → Accepts on forward c m → ◌≡◌ {A = ℕ} (length (by.words c m)) 8
    pub room : (c : C) (m : M) → Accepts on forward c m → 8 * by.count m + 8 ≤ by.size m
    -- at an accepted word of 0 it is refused; with which number, and when it is accepted else, the family's table says
    pub none : (b : B) (g : List ℕ) (m : M) → ◌≡◌ {A = ℕ} (by.count m) 0 → accepted_said (by.back_says b g m) ≡ false
    -- "all lent words outside the journal are then those before that step": in every memory in which both are accepted
    pub exact : (b : B) (c : C) (m : M) → Accepts on forward c m → TakesBack b (by.words c m) (on.leaves c m)
        → by.back_leaves b (by.words c m) (on.leaves c m) ≡ m
    -- "outside count and journal, and stepping back leaves marks": a step back reads and writes nothing that a call aside writes, nor writes what it reads
    pub unseen : (b : B) (g : List ℕ) (c : C) (m : M) → Accepts on aside c m → by.back_says b g (on.leaves c m) ≡ by.back_says b g m
    pub commutes : (b : B) (g : List ℕ) (c : C) (m : M) → Accepts on aside c m → TakesBack b g m
        → by.back_leaves b g (on.leaves c m) ≡ on.leaves c (by.back_leaves b g m)
    pub answers-too : (b : B) (g : List ℕ) (c : C) (m : M) → Accepts on aside c m → TakesBack b g m → on.says c (by.back_leaves b g m) ≡ on.says c m
