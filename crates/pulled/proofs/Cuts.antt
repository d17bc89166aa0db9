-- A staged update from tables that the check accepts: what the tables are after each stage, and what the reader shows: the old table through the second stage, the new
-- one from the third on, sums that are equal by accident included. No contract cites this file. Assumes nothing.
use mathlib.Core.Path.{◌≡◌, refl, sym, ap, ◌∙◌}
use mathlib.Core.Bool.{true}
use mathlib.Core.List.{List}
use Prim.Native.Nat.{ℕ, zero, suc, ◌-◌, ◌^◌, ◌≤◌, ◌<◌}
use native.Mathlib.Omega.{arith}
use lib.ListN.{length}
use Rattle.units.specs.Guids.{guid_at}
use Rattle.units.specs.Held.{Small}
use Rattle.crc32.specs.Crc.{crc}
use Rattle.tables.specs.Lens.{Side, Front, Back, Copy, Tables, with_copy, with_array}
use Rattle.tables.specs.Entries.{zeros, set_entry}
use Rattle.tables.specs.Headers.{copy_of}
use Rattle.tables.specs.Check.{guid_of, check, slot_check}
use Rattle.card.specs.Calls.{changed, put_check}
use Rattle.tables.proofs.Orders.{split, by-test}
use Rattle.tables.proofs.LensLaws.{Whole}
use Rattle.tables.proofs.EntryLaws.{Entries, entries-set, length-zeros, ok_of, ok-zeros, overlaps-zeros, twins-unused, twins-alone, unused-zeros}
use Rattle.tables.proofs.Good.{Good, room-ok, check-good}
use Rattle.history.proofs.Changes.{small-zeros, put-ok, clear-check, clear-slot}
use Rattle.reader.specs.Reader.{passes, table, shown}
use Rattle.staged.specs.Stages.{fixed, slot_stage, header_stage, after_stages}
use Rattle.pulled.proofs.Readers.{Held, AllBytes, guid-held, small-entry, zero-passes, lay-passes, lay-shows, shown-front, shown-back}

module _ (B n : ℕ) (t : Tables) (s : ℕ) (e : List ℕ) where
  abbrev new : List ℕ
  new = set_entry t.front.array (s - 1) e

  abbrev kept : List ℕ
  kept = guid_of t.front

  -- after stage 4 nothing more happens
  pub after_more : (k : ℕ) → after_stages B n (fixed B n t s e) (suc (suc (suc (suc k)))) t ≡ after_stages B n (fixed B n t s e) 4 t
  unfolding after_stages
  after_more zero = refl
  after_more (suc k) = after_more k

  module _ (good : Good B n t) where
    pub after-1 : after_stages B n (fixed B n t s e) 1 t ≡ with_array Back new t
    unfolding after_stages slot_stage fixed
    after-1 = ap (λ (a : List ℕ). with_array Back (set_entry a (s - 1) e) t) good.arrays

    pub after-2 : after_stages B n (fixed B n t s e) 2 t ≡ with_copy Back (copy_of B n Back kept new) t
    unfolding after_stages header_stage fixed copy_of
    after-2 = ap (λ (x : Tables). header_stage B n Back (guid_at kept 0) (crc new) x) after-1

    pub after-3 : after_stages B n (fixed B n t s e) 3 t ≡ record { front = record { header = t.front.header; array = new }; back = copy_of B n Back kept new }
    unfolding after_stages slot_stage fixed
    after-3 = ap (λ (x : Tables). slot_stage Front (fixed B n t s e) x) after-2

    -- after the fourth the tables are what the plain call would have left
    pub after-4 : after_stages B n (fixed B n t s e) 4 t ≡ changed B n t s e
    unfolding after_stages header_stage fixed copy_of changed
    after-4 = ap (λ (x : Tables). header_stage B n Front (guid_at kept 0) (crc new) x) after-3

    -- ---- what the reader shows

    -- while the front stands it is shown, whatever the back table is
    pub front-stands : (c : Copy) → shown B n (with_copy Back c t) ≡ table kept t.front.array
    front-stands c = shown-front B n (with_copy Back c t) (zero-passes B n Front t.front good.front good.entries)

    pub cut-old : (k : ℕ) → k ≤ 2 → shown B n (after_stages B n (fixed B n t s e) k t) ≡ table kept t.front.array
    unfolding after_stages
    cut-old zero h = front-stands t.back
    cut-old (suc zero) h = ap (λ (x : Tables). shown B n x) after-1 ∙ front-stands _
    cut-old (suc (suc zero)) h = ap (λ (x : Tables). shown B n x) after-2 ∙ front-stands _
    cut-old (suc (suc (suc k))) h = absurd (omega arith)

    module _ (few : n < 2 ^ 64) (held : Held kept) (small : Small new) (fresh : Entries B n new) where
      lay-new : (s : Side) → passes B n s (copy_of B n s kept new) ≡ true
      lay-new s = lay-passes B n s kept new held (room-ok B n good.room) few small fresh

      -- the new array under the old front header: it passes only if the sums are equal, and then it shows the same as the back
      third : shown B n (record { front = record { header = t.front.header; array = new }; back = copy_of B n Back kept new }) ≡ table kept new
      unfolding guid_of
      third =
          by-test (passes B n Front (record { header = t.front.header; array = new }))
          (λ h. shown-front B n _ h)
          (λ h. shown-back B n _ h (lay-new Back) ∙ lay-shows B n Back kept new held)

      fourth : shown B n (changed B n t s e) ≡ table kept new
      unfolding changed
      fourth = shown-front B n _ (lay-new Front) ∙ lay-shows B n Front kept new held

      pub cut-new : (k : ℕ) → 3 ≤ k → shown B n (after_stages B n (fixed B n t s e) k t) ≡ table kept new
      cut-new zero h = absurd (omega arith)
      cut-new (suc zero) h = absurd (omega arith)
      cut-new (suc (suc zero)) h = absurd (omega arith)
      cut-new (suc (suc (suc zero))) h = ap (λ (x : Tables). shown B n x) after-3 ∙ third
      cut-new (suc (suc (suc (suc k)))) h = ap (λ (x : Tables). shown B n x) (after_more k ∙ after-4) ∙ fourth

-- ---- the two calls: from tables that the check accepts

module _ (B n : ℕ) (t : Tables) (whole : Whole B t) (small : AllBytes t) (few : n < 2 ^ 64) where
  -- what an accepted put or clear writes passes
  pub put-fresh : (s : ℕ) (e : List ℕ) (reserved : ℕ) → length e ≡ 128 → (put_check B n t s e reserved).number ≡ 0 → Entries B n (set_entry t.front.array (s - 1) e)
  put-fresh s e reserved le h =
      let o = put-ok B n t s e reserved h in
      entries-set _ (s - 1) e whole.front-array o.slot le B n (check-good B n t o.card).entries (ok_of B n e o.taken o.inside) o.free (λ j p d. twins-alone e _ (o.alone j p d))

  pub clear-fresh : (s : ℕ) → (slot_check B n t s).number ≡ 0 → Entries B n (set_entry t.front.array (s - 1) (zeros 128))
  clear-fresh s h =
      entries-set _ (s - 1) (zeros 128) whole.front-array (clear-slot B n t s h).1 (length-zeros 128) B n (check-good B n t (clear-check B n t s h)).entries (ok-zeros B n)
      (λ j _ _. overlaps-zeros _) (λ j _ _. twins-unused (zeros 128) _ unused-zeros)

  -- the cut theorem: old through the second stage, new from the third on, and after the fourth the plain call's tables
  pub record Cut (s : ℕ) (e : List ℕ) : Type 0 where
    pub old : (k : ℕ) → k ≤ 2 → shown B n (after_stages B n (fixed B n t s e) k t) ≡ table (guid_of t.front) t.front.array
    pub new : (k : ℕ) → 3 ≤ k → shown B n (after_stages B n (fixed B n t s e) k t) ≡ table (guid_of t.front) (set_entry t.front.array (s - 1) e)
    pub last : (k : ℕ) → 4 ≤ k → after_stages B n (fixed B n t s e) k t ≡ changed B n t s e

  cut_of : (s : ℕ) (e : List ℕ) → s - 1 < 128 → length e ≡ 128 → Small e → (check B n t).number ≡ 0 → Entries B n (set_entry t.front.array (s - 1) e) → Cut s e
  cut_of s e p le se c f =
      let g = check-good B n t c in
      let r = room-ok B n g.room in
      let h : Held (guid_of t.front) = guid-held B n Front t.front (omega (arith, whole.front-header, r.least)) small.front-header in
      record { old = cut-old B n t s e g; new = cut-new B n t s e g few h (small-entry t.front.array (s - 1) e whole.front-array p le small.front-array se) f; last = done g }
    where
      done : Good B n t → (k : ℕ) → 4 ≤ k → after_stages B n (fixed B n t s e) k t ≡ changed B n t s e
      done g zero h = absurd (omega arith)
      done g (suc zero) h = absurd (omega arith)
      done g (suc (suc zero)) h = absurd (omega arith)
      done g (suc (suc (suc zero))) h = absurd (omega arith)
      done g (suc (suc (suc (suc k)))) h = after_more B n t s e k ∙ after-4 B n t s e g

  pub put-cut : (s : ℕ) (e : List ℕ) (reserved : ℕ) → length e ≡ 128 → Small e → (put_check B n t s e reserved).number ≡ 0 → Cut s e
  put-cut s e reserved le se h = cut_of s e (put-ok B n t s e reserved h).slot le se (put-ok B n t s e reserved h).card (put-fresh s e reserved le h)

  pub clear-cut : (s : ℕ) → (slot_check B n t s).number ≡ 0 → Cut s (zeros 128)
  clear-cut s h = cut_of s (zeros 128) (clear-slot B n t s h).1 (length-zeros 128) (small-zeros 128) (clear-check B n t s h) (clear-fresh s h)

  -- an update that changes the array counts exactly if the reader shows the new table: from the third stage on
  pub shows-new : (s : ℕ) (e : List ℕ) → Cut s e → (t.front.array ≡ set_entry t.front.array (s - 1) e → ⊥) → (k : ℕ)
      → shown B n (after_stages B n (fixed B n t s e) k t) ≡ table (guid_of t.front) (set_entry t.front.array (s - 1) e) → 3 ≤ k
  shows-new s e c d k h =
      split k 2
      (λ q.
      let z : table (guid_of t.front) t.front.array ≡ table (guid_of t.front) (set_entry t.front.array (s - 1) e) = sym (c.old k q) ∙ h in
      absurd (d (arrays z)))
      (λ q. q)
    where
      arrays : {g a b : List ℕ} → table g a ≡ table g b → a ≡ b
      arrays x = cc
