-- Stages on two windows: what a later stage is refused by, and what one store leaves in them. From document 02, 10/13: in later stages the windows' own numbers come after 26. Of these 3, 8 and 10 never come:
-- no accepted stage one has such a number of blocks, so that 26, which compares the state's length with the blocks times B as whole numbers, is first. Assumes nothing.
use Rattle.std.specs.Prelude.{◌≡◌, true, false, ◌||◌, List, ℕ, ◌+◌, ◌*◌, ◌-◌, eqb, ltb, length}
use Rattle.std.proofs.lemmas.List.Edits.{sets}
use Rattle.units.specs.declared.why.Why.{Why}
use Rattle.units.specs.Answer.{Answer, or_else}
use Rattle.units.specs.Bytes.{part}
use Rattle.partition.specs.declared.Partition.{Partition}
use Rattle.tables.specs.Places.{array_blocks}
use Rattle.tables.specs.Lens.{Side, Front, Back, side_of, other, header_in, array_in}
use Rattle.tables.specs.Entries.{zeros}
use Rattle.tables.specs.Headers.{head_block}
use Rattle.staged.specs.declared.Update.{Update}
use Rattle.staged.specs.declared.Repair.{Repair}
use Rattle.staged.specs.Numbers.{start_put, start_clear, next_check, next_stage, next_repair_check, next_repair}
use Rattle.staged.specs.Repairs.{mended}
use Rattle.staged.specs.Stores.{store_in, store_bytes}
use Rattle.windows.specs.Windows.{length_check, Windowed, windowed_by, window_outcome}
use Rattle.windows_reader.specs.Parts.{array_of}

-- 1, 26, and then 32
unfoldable pub next_why : ℕ → ℕ → ℕ → ℕ → ℕ → Update → Why
next_why B N h t k u = or_else (next_check B (N * B) k u) (length_check B h t)

unfoldable pub next_repair_why : ℕ → ℕ → ℕ → ℕ → ℕ → Repair → Why
next_repair_why B N h t k r = or_else (next_repair_check B (N * B) k r) (length_check B h t)

-- a later stage
abbrev pub next_windowed : ℕ → ℕ → List ℕ → List ℕ → ℕ → Update → Windowed (Answer Update)
next_windowed B N head tail k u = windowed_by (next_why B N (length head) (length tail) k u) B N head tail (λ (xs : List ℕ). next_stage B xs k u)

abbrev pub next_repair_windowed : ℕ → ℕ → List ℕ → List ℕ → ℕ → Repair → Windowed (Answer Repair)
next_repair_windowed B N head tail k r = windowed_by (next_repair_why B N (length head) (length tail) k r) B N head tail (λ (xs : List ℕ). next_repair B xs k r)

-- stage one
abbrev pub start_put_in : ℕ → ℕ → List ℕ → List ℕ → ℕ → Partition → Windowed (Answer Update)
start_put_in B N head tail s p = window_outcome B N head tail (λ (xs : List ℕ). start_put B xs s p)

abbrev pub start_clear_in : ℕ → ℕ → List ℕ → List ℕ → ℕ → Windowed (Answer Update)
start_clear_in B N head tail s = window_outcome B N head tail (λ (xs : List ℕ). start_clear B xs s)

-- ---- one store at a place of a side's own bytes: the front table is in the head after block 0, the back one is the tail

abbrev pub head_with : ℕ → Side → ℕ → List ℕ → List ℕ → List ℕ
head_with B Front o vs head = sets head (B + o) vs
head_with B Back o vs head = head

abbrev pub tail_with : Side → ℕ → List ℕ → List ℕ → List ℕ
tail_with Front o vs tail = tail
tail_with Back o vs tail = sets tail o vs

abbrev pub Stored : ℕ → Side → ℕ → List ℕ → List ℕ → List ℕ → List ℕ → List ℕ → Type 0
Stored B s o vs head tail h t = (h ≡ head_with B s o vs head) × (t ≡ tail_with s o vs tail)

-- stage k of an update: the back table at 1 and 2, the header at 2 and 4
abbrev pub StageStored : Update → ℕ → List ℕ → List ℕ → List ℕ → List ℕ → Type 0
StageStored u k head tail h t =
    Stored u.b (side_of (ltb k 3)) (store_in u.b (side_of (ltb k 3)) u (eqb k 2 || eqb k 4)) (store_bytes u.b u.len (side_of (ltb k 3)) u (eqb k 2 || eqb k 4)) head tail h t

-- the stores of a repair on a side: zeros in the header's block, block j of the array as the other side's has it, the header
abbrev pub ZerosStored : ℕ → Side → List ℕ → List ℕ → List ℕ → List ℕ → Type 0
ZerosStored B s head tail h t = Stored B s (header_in s) (zeros B) head tail h t

abbrev pub BlockStored : ℕ → Side → ℕ → List ℕ → List ℕ → List ℕ → List ℕ → Type 0
BlockStored B s j head tail h t = Stored B s (array_in B s + j * B) (part (array_of B (other s) head tail) (j * B) B) head tail h t

abbrev pub HeaderStored : Repair → Side → List ℕ → List ℕ → List ℕ → List ℕ → Type 0
HeaderStored r s head tail h t = Stored r.b s (header_in s) (head_block r.b r.len s r.guid r.parts) head tail h t

-- stage k of a repair, from 2 on
abbrev pub RepairStored : Repair → ℕ → List ℕ → List ℕ → List ℕ → List ℕ → Type 0
RepairStored r k head tail h t =
    (ltb (k - 2) (array_blocks r.b) ≡ true → BlockStored r.b (mended r) (k - 2) head tail h t)
    × (ltb (k - 2) (array_blocks r.b) ≡ false → HeaderStored r (mended r) head tail h t)
