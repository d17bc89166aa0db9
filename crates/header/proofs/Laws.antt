-- The laws of a header's 92 bytes: what is stored reads back, what is read is stored back, what the check sum covers, and what a read finds after a write.
-- No contract cites this file. Assumes nothing.
use mathlib.Core.Path.{◌≡◌, refl, sym, ap, ◌∙◌}
use mathlib.Core.Bool.{Bool, true, false, not}
use mathlib.Core.List.{List, [], ◌∷◌, ◌++◌, append-nil, append_assoc}
use Prim.Native.Nat.{ℕ, ◌+◌, ◌*◌, ◌-◌, ◌/◌, ◌^◌, ◌≤◌, ◌<◌}
use native.Mathlib.Nat.{add_assoc, one-mul}
use native.Mathlib.Omega.{arith}
use lib.Dec.{eqb, ltb, leb}
use lib.ListN.{length, take, drop, replicate, length-append, length-drop, length-replicate}
use lib.Seq.{sets, length-sets, take-take, get_or-drop}
use borrow.Author.Tests.{le-leb, le-ltb, leb-true, leb-false, ltb-false, not-true, not-false}
use denote.Shadow.{shadow}
use denote.Struct.Declared.{row}
use mir.Val.{Val}
use Rattle.units.specs.declared.Guid.{Guid}
use Rattle.units.specs.declared.why.Why.{Why}
use Rattle.units.specs.Answer.{Answer, accepted, refused, number_of, refuse, Outcome, gives}
use Rattle.units.specs.Bytes.{part, num, bytes, same}
use Rattle.units.specs.Guids.{guid_bytes}
use Rattle.units.specs.Places.{good_size, inside, inside_or_empty}
use Rattle.units.specs.Held.{Small, GuidHeld}
use Rattle.units.proofs.Lists.{part_join, part-part, drop-sets}
use Rattle.units.proofs.Laws.{size-range, by-pick, length-bytes, num-drop, le_bytes, small-part, Low, low-append, low-bytes, small-eight, bytes-num, same_refl}
use Rattle.units.proofs.GuidLaws.{guid-held-of, low-guid, guid-here, guid-bytes-back}
use Rattle.crc32.specs.Crc.{crc}
use Rattle.crc32.specs.Register.{crc-fits}
use Rattle.crc32.specs.HeaderSum.{blanked, header_sum}
use Rattle.header.specs.declared.Header.{Header}
use Rattle.header.specs.Format.{signature, header_at, header_bytes}
use Rattle.header.specs.Reading.{header_read, primary_read, backup_read}
use Rattle.header.specs.declared.Written.{Written}
use Rattle.header.specs.Writing.{array_bytes, parts_sum, stored, summed, with_sums, header_block, own_block, written}
use Rattle.header.specs.contracts.Header.{the_type}
use Rattle.header.proofs.Ways.{last_block, read-good}

pub length-header : (h : Header) → length (header_bytes h) ≡ 92
length-header h = simp (length-append, length-bytes)

-- ---- the numbers of a header fit their fields

pub record FitHeader (h : Header) : Type 0 where
  pub major : h.revision.0 < 2 ^ 16
  pub minor : h.revision.1 < 2 ^ 16
  pub size : h.header_size_le < 2 ^ 32
  pub sum : h.crc32 < 2 ^ 32
  pub reserved : h.reserved < 2 ^ 32
  pub current : h.current_lba.0 < 2 ^ 64
  pub backup : h.backup_lba.0 < 2 ^ 64
  pub first : h.first_usable.0 < 2 ^ 64
  pub last : h.last_usable.0 < 2 ^ 64
  pub disk : GuidHeld h.disk_guid
  pub start : h.part_start.0 < 2 ^ 64
  pub count : h.num_parts < 2 ^ 32
  pub each : h.part_size < 2 ^ 32
  pub parts : h.crc32_parts < 2 ^ 32

-- a header that the code holds fits: what owning it tells
pub fit-header-of : (h : Header) (vs : List Val) → shadow ((row the_type).own_val h vs) → FitHeader h
fit-header-of h vs o =
    let f = o.1.1 in
    let g = f.1.1.1.1.1.1.1.1 in
    record {
      major = f.0.1.1.0.1;
      minor = f.0.1.1.1.0.1;
      size = f.1.0.1;
      sum = f.1.1.0.1;
      reserved = f.1.1.1.0.1;
      current = f.1.1.1.1.0.1.1.0.1;
      backup = f.1.1.1.1.1.0.1.1.0.1;
      first = f.1.1.1.1.1.1.0.1.1.0.1;
      last = f.1.1.1.1.1.1.1.0.1.1.0.1;
      disk = guid-held-of _ _ g.0;
      start = g.1.0.1.1.0.1;
      count = g.1.1.0.1;
      each = g.1.1.1.0.1;
      parts = g.1.1.1.1.0.1;
    }

-- every byte of a header is a byte
pub small-header : (h : Header) → FitHeader h → Small (header_bytes h)
small-header h f = low.each
  where
    mark : Low signature
    mark = record { each = small-eight (omega arith) (omega arith) (omega arith) (omega arith) (omega arith) (omega arith) (omega arith) (omega arith) }

    low : Low (header_bytes h)
    low =
        low-append mark
        (low-append (low-bytes 2 _)
        (low-append (low-bytes 2 _)
        (low-append (low-bytes 4 _)
        (low-append (low-bytes 4 _)
        (low-append (low-bytes 4 _)
        (low-append (low-bytes 8 _)
        (low-append (low-bytes 8 _)
        (low-append (low-bytes 8 _)
        (low-append (low-bytes 8 _)
        (low-append (low-guid h.disk_guid f.disk)
        (low-append (low-bytes 8 _)
        (low-append (low-bytes 4 _)
        (low-append (low-bytes 4 _) (low-bytes 4 _))))))))))))))

-- ---- what is stored reads back

abbrev of_fields : ℕ → ℕ → ℕ → ℕ → ℕ → ℕ → ℕ → ℕ → ℕ → Guid → ℕ → ℕ → ℕ → ℕ → Header
of_fields major minor size own reserved current backup first last disk start count each parts =
    record {
      revision = record { 0 = major; 1 = minor };
      header_size_le = size;
      crc32 = own;
      reserved = reserved;
      current_lba = record { 0 = current };
      backup_lba = record { 0 = backup };
      first_usable = record { 0 = first };
      last_usable = record { 0 = last };
      disk_guid = disk;
      part_start = record { 0 = start };
      num_parts = count;
      part_size = each;
      crc32_parts = parts;
    }

fields-eq : {a b c d e f g i j l m n o a' b' c' d' e' f' g' i' j' l' m' n' o' : ℕ} {k k' : Guid}
    → a ≡ a' → b ≡ b' → c ≡ c' → d ≡ d' → e ≡ e' → f ≡ f' → g ≡ g' → i ≡ i' → j ≡ j' → k ≡ k' → l ≡ l' → m ≡ m' → n ≡ n' → o ≡ o'
    → of_fields a b c d e f g i j k l m n o ≡ of_fields a' b' c' d' e' f' g' i' j' k' l' m' n' o'
fields-eq p q r s t u v w x y z p' q' r' = cc

-- a header that a list begins with: each field stands at its place
pub header-here : (h : Header) (r : List ℕ) → FitHeader h → header_at (header_bytes h ++ r) 0 ≡ h
unfolding num bytes
header-here h r f =
    fields-eq
    (le_bytes 2 h.revision.0 f.major)
    (le_bytes 2 h.revision.1 f.minor)
    (le_bytes 4 h.header_size_le f.size)
    (le_bytes 4 h.crc32 f.sum)
    (le_bytes 4 h.reserved f.reserved)
    (le_bytes 8 h.current_lba.0 f.current)
    (le_bytes 8 h.backup_lba.0 f.backup)
    (le_bytes 8 h.first_usable.0 f.first)
    (le_bytes 8 h.last_usable.0 f.last)
    (guid-here h.disk_guid r f.disk.fields)
    (le_bytes 8 h.part_start.0 f.start)
    (le_bytes 4 h.num_parts f.count)
    (le_bytes 4 h.part_size f.each)
    (le_bytes 4 h.crc32_parts f.parts)

header-drop : (xs : List ℕ) (at : ℕ) → header_at xs at ≡ header_at (drop at xs) 0
header-drop xs at = simp (add_assoc, ← num-drop, get_or-drop)

-- a header that stands at a place of a list
header-there : (xs : List ℕ) (at : ℕ) (h : Header) (r : List ℕ) → drop at xs ≡ header_bytes h ++ r → FitHeader h → header_at xs at ≡ h
header-there xs at h r e f = header-drop xs at ∙ ap (λ (l : List ℕ). header_at l 0) e ∙ header-here h r f

-- a header that was stored reads back
pub header-back : (h : Header) (xs : List ℕ) (at : ℕ) → FitHeader h → at + 92 ≤ length xs → header_at (sets xs at (header_bytes h)) at ≡ h
header-back h xs at f l =
    header-there (sets xs at (header_bytes h)) at h (drop (at + length (header_bytes h)) xs)
    (drop-sets xs at (header_bytes h) (omega (arith, length-header h))) f

-- ---- what is read is stored back

-- the signature and the fields are the whole of the 92 bytes: no others have these fields
pub header-bytes-back : (xs : List ℕ) (at : ℕ) → at + 92 ≤ length xs → Small xs → part xs at 8 ≡ signature → header_bytes (header_at xs at) ≡ part xs at 92
header-bytes-back xs at h b e =
    let f : (k n : ℕ) → k + n ≤ 92 → bytes n (num xs (at + k) n) ≡ part xs (at + k) n = λ k n l. bytes-num xs (at + k) n (omega arith) b in
    let j : (k n m : ℕ) → part xs (at + k) n ++ part xs (at + (k + n)) m ≡ part xs (at + k) (n + m) =
    λ k n m. part_join xs (at + k) n (at + (k + n)) m (n + m) (omega arith) refl in
    rw (
      f 8 2 (omega arith),
      f 10 2 (omega arith),
      f 12 4 (omega arith),
      f 16 4 (omega arith),
      f 20 4 (omega arith),
      f 24 8 (omega arith),
      f 32 8 (omega arith),
      f 40 8 (omega arith),
      f 48 8 (omega arith),
      guid-bytes-back xs (at + 56) (omega arith) b,
      f 72 8 (omega arith),
      f 80 4 (omega arith),
      f 84 4 (omega arith),
      f 88 4 (omega arith),
      j 84 4 4,
      j 80 4 8,
      j 72 8 12,
      j 56 16 20,
      j 48 8 36,
      j 40 8 44,
      j 32 8 52,
      j 24 8 60,
      j 20 4 68,
      j 16 4 72,
      j 12 4 76,
      j 10 2 80,
      j 8 2 82,
    )
    (ap (λ (l : List ℕ). l ++ part xs (at + 8) 84) (sym e) ∙ part_join xs at 8 (at + 8) 84 92 refl refl)

-- ---- the check sum

-- it is taken over the header with its own field as zero, so that field does not count
pub sum-blind : (h : Header) (own other parts : ℕ) → header_sum (header_bytes (summed h own parts)) 0 ≡ header_sum (header_bytes (summed h other parts)) 0
unfolding header_sum blanked bytes
sum-blind h own other parts = refl

-- only the 92 bytes at the place count
pub sum-part : (xs : List ℕ) (at : ℕ) → header_sum xs at ≡ header_sum (part xs at 92) 0
unfolding header_sum blanked
sum-part xs at =
    let l : List ℕ = drop at xs in
    rw (take-take 16 92 l (omega arith), part-part l 0 92 20 72 (omega arith))

sum-there : (xs : List ℕ) (at : ℕ) (h : Header) (r : List ℕ) → drop at xs ≡ header_bytes h ++ r → header_sum xs at ≡ header_sum (header_bytes h) 0
unfolding header_sum blanked bytes
sum-there xs at h r e = ap (λ (l : List ℕ). crc (blanked l)) e

-- a sum fits its field
pub sum_fits : (xs : List ℕ) (at : ℕ) → Small xs → header_sum xs at < 2 ^ 32
unfolding header_sum blanked bytes
sum_fits xs at f =
    let d : Small (drop at xs) = λ k. rw (get_or-drop at xs k 0) (f (at + k)) in
    let a : Low (take 16 (drop at xs)) = record { each = small-part xs at 16 f } in
    let b : Low (part (drop at xs) 20 72) = record { each = small-part (drop at xs) 20 72 d } in
    crc-fits (blanked (drop at xs)) (low-append a (low-append (low-bytes 4 0) b)).each

fit-stored : (h : Header) (own parts : ℕ) → FitHeader h → own < 2 ^ 32 → parts < 2 ^ 32 → FitHeader (stored (summed h own parts))
fit-stored h own parts f o p =
    record {
      major = f.major;
      minor = f.minor;
      size = f.size;
      sum = o;
      reserved = omega arith;
      current = f.current;
      backup = f.backup;
      first = f.first;
      last = f.last;
      disk = f.disk;
      start = f.start;
      count = f.count;
      each = f.each;
      parts = p;
    }

-- a header with its new sums, as it is stored: it fits, and its own sum is the one of its bytes
pub fit-summed : (h : Header) (parts : ℕ) → FitHeader h → parts < 2 ^ 32 → FitHeader (stored (with_sums h parts))
unfolding with_sums
fit-summed h parts f p =
    let z : Header = stored (summed h 0 parts) in
    fit-stored h (header_sum (header_bytes z) 0) parts f (sum_fits (header_bytes z) 0 (small-header z (fit-stored h 0 parts f (omega arith) p))) p

pub sum-right : (h : Header) (parts : ℕ) → (stored (with_sums h parts)).crc32 ≡ header_sum (header_bytes (stored (with_sums h parts))) 0
unfolding with_sums
sum-right h parts = sum-blind (stored h) 0 (header_sum (header_bytes (stored (summed h 0 parts))) 0) parts

-- ---- calls after each other

-- a header with the right sum that stands at a place is read there
pub stands-reads : (xs : List ℕ) (at : ℕ) (h : Header) (r : List ℕ) → drop at xs ≡ header_bytes h ++ r → FitHeader h → h.crc32 ≡ header_sum (header_bytes h) 0
    → header_read xs at ≡ accepted h
unfolding inside
stands-reads xs at h r e f c =
    let n : length xs - at ≡ length (header_bytes h) + length r = sym (length-drop at xs) ∙ ap length e ∙ length-append (header_bytes h) r in
    let g : part xs at 8 ≡ signature = ap (take 8) e in
    sym
    (read-good xs at
    (sym (le-leb (at + 92) (length xs) (omega (arith, length-header h))))
    refl
    (sym (ap (λ (l : List ℕ). same l signature) g ∙ same_refl signature))
    refl
    (sym (header-there xs at h r e f))
    (sym (sum-there xs at h r e))
    (sym c))

-- the sum of an array is a number of 32 bits
pub parts-fit : (xs : List ℕ) (h : Header) (b x : ℕ) → Small xs → parts_sum xs h b ≡ accepted x → x < 2 ^ 32
unfolding parts_sum
parts-fit xs h b x f =
    by-pick Q (not (good_size b)) _ _ (λ _ e. never e)
    (λ _. by-pick Q (leb (2 ^ 64) (h.part_start.0 * b)) _ _ (λ _ e. never e)
    (λ _. by-pick Q (not (inside_or_empty (length xs) (h.part_start.0 * b) (array_bytes h))) _ _ (λ _ e. never e)
    (λ _ e.
    let l : List ℕ = part xs (h.part_start.0 * b) (array_bytes h) in
    let q : crc l ≡ x = cc in
    rw (← q) (crc-fits l (small-part xs (h.part_start.0 * b) (array_bytes h) f)))))
  where
    Q : Answer ℕ → Type 0
    Q a = a ≡ accepted x → x < 2 ^ 32

    never : {w : Why} → refused w ≡ accepted x → x < 2 ^ 32
    never e = absurd (let z : ◌≡◌ {A = ℕ} 0 1 = cc in omega arith)

-- what an accepted write tells
pub record Accepted (wrong : Bool) (xs : List ℕ) (h : Header) (b : ℕ) (w : Written) (ys : List ℕ) : Type 0 where
  pub size : good_size b ≡ true
  pub right : wrong ≡ false
  pub parts : ℕ
  pub array : parts_sum xs h b ≡ accepted parts
  pub within : h.current_lba.0 * b + b ≤ length xs
  pub answer : w ≡ record { count = b; header = with_sums h parts }
  pub image : ys ≡ sets xs (h.current_lba.0 * b) (header_block (with_sums h parts) b)

pub written-tells : (wrong : Bool) (xs : List ℕ) (h : Header) (b : ℕ) (w : Written) (ys : List ℕ)
    → written wrong xs h b ≡ gives (accepted w) ys → Accepted wrong xs h b w ys
unfolding written own_block inside
written-tells wrong xs h b w ys =
    by-pick Q (not (good_size b)) _ _ (λ _ e. never e)
    (λ g. by-pick Q wrong _ _ (λ _ e. never e)
    (λ f. own g f (parts_sum xs h b) refl))
  where
    p : ℕ
    p = h.current_lba.0 * b

    Q : Outcome (Answer Written) → Type 0
    Q o = o ≡ gives (accepted w) ys → Accepted wrong xs h b w ys

    never : {y : Why} → gives (refused y) xs ≡ gives (accepted w) ys → Accepted wrong xs h b w ys
    never {y} e = absurd (let s : refused y ≡ accepted w = ap (λ (o : Outcome (Answer Written)). o.answer) e in let z : ◌≡◌ {A = ℕ} 0 1 = cc in omega arith)

    own : not (good_size b) ≡ false → wrong ≡ false → (a : Answer ℕ) → parts_sum xs h b ≡ a → Q (own_block xs h b a)
    own g f (refused y) s = λ e. never e
    own g f (accepted parts) s =
        by-pick Q (leb (2 ^ 64) p) _ _ (λ _ e. never e)
        (λ _. by-pick Q (not (leb (p + b) (length xs))) _ _ (λ _ e. never e)
        (λ i e.
        record {
          size = not-false (good_size b) g;
          right = f;
          parts = parts;
          array = s;
          within = leb-true (p + b) (length xs) (not-false (leb (p + b) (length xs)) i);
          answer = let q : accepted (record { count = b; header = with_sums h parts }) ≡ accepted w = ap (λ (o : Outcome (Answer Written)). o.answer) e in cc;
          image = sym (ap (λ (o : Outcome (Answer Written)). o.image) e);
        }))

-- after an accepted write, of a primary header or a backup
module _ (wrong : Bool) (xs : List ℕ) (h : Header) (b : ℕ) (w : Written) (ys : List ℕ) (f : FitHeader h) (s : Small xs) (e : written wrong xs h b ≡ gives (accepted w) ys) where
  tells : Accepted wrong xs h b w ys
  tells = written-tells wrong xs h b w ys e

  -- a read at the header's own place is accepted, with the fields that were written
  pub written-reads-back : header_read ys (h.current_lba.0 * b) ≡ accepted (stored w.header)
  written-reads-back =
      let p : ℕ = h.current_lba.0 * b in
      let v : Header = with_sums h tells.parts in
      let H : List ℕ = header_bytes (stored v) in
      let Z : List ℕ = replicate (b - 92) 0 in
      let r : (512 ≤ b) × (b ≤ 4096) = size-range b tells.size in
      let l : length (H ++ Z) ≡ b = length-append H Z ∙ omega (arith, length-header (stored v), length-replicate {A = ℕ} (b - 92) 0) in
      let R : List ℕ = drop (p + length (H ++ Z)) xs in
      let d : drop p ys ≡ H ++ (Z ++ R) = ap (drop p) tells.image ∙ drop-sets xs p (H ++ Z) (omega (arith, tells.within)) ∙ append_assoc H Z R in
      let k : tells.parts < 2 ^ 32 = parts-fit xs h b tells.parts s tells.array in
      stands-reads ys p (stored v) (Z ++ R) d (fit-summed h tells.parts f k) (sum-right h tells.parts)
      ∙ ap (λ (y : Written). accepted (stored y.header)) (sym tells.answer)

  -- so it is the primary header of the image where it was written to block 1
  pub primary-reads-back : h.current_lba.0 ≡ 1 → primary_read ys b ≡ accepted (stored w.header)
  unfolding primary_read
  primary-reads-back o =
      let p : h.current_lba.0 * b ≡ b = rw o (one-mul b) in
      rw tells.size (rw p at written-reads-back)

  -- and the backup header where it was written to the last whole block
  pub backup-reads-back : 3 * b ≤ length xs → h.current_lba.0 ≡ (length xs - b) / b → backup_read ys b ≡ accepted (stored w.header)
  unfolding backup_read
  backup-reads-back l o =
      let n : length ys ≡ length xs = ap length tells.image ∙ length-sets xs (h.current_lba.0 * b) (header_block (with_sums h tells.parts) b) in
      rw (tells.size, n, le-ltb (length xs) (3 * b) l, ← o) written-reads-back

-- what a refusal by 2 tells
short-tells : (xs : List ℕ) (at : ℕ) → header_read xs at ≡ refuse 2 → length xs < at + 92
unfolding header_read inside
short-tells xs at =
    by-pick Q (not (leb (at + 92) (length xs))) _ _ (λ t _. leb-false (at + 92) (length xs) (not-true (leb (at + 92) (length xs)) t))
    (λ _. by-pick Q (not (same (part xs at 8) signature)) _ _ (λ _ e. let z : ◌≡◌ {A = ℕ} 4 2 = ap number_of e in omega arith)
    (λ _. by-pick Q (not (eqb (header_sum xs at) (num xs (at + 16) 4))) _ _
    (λ _ e. let z : ◌≡◌ {A = ℕ} 5 2 = ap number_of e in omega arith)
    (λ _ e. let z : ◌≡◌ {A = ℕ} 0 2 = ap number_of e in omega arith)))
  where
    Q : Answer Header → Type 0
    Q a = a ≡ refuse 2 → length xs < at + 92

-- a backup header is never refused by 2: an image of three blocks has room for it in its last
pub backup-never-short : (xs : List ℕ) (b : ℕ) → backup_read xs b ≡ refuse 2 → ⊥
unfolding backup_read
backup-never-short xs b =
    by-pick Q (not (good_size b)) _ _ (λ _ e. let z : ◌≡◌ {A = ℕ} 1 2 = ap number_of e in omega arith)
    (λ g. by-pick Q (ltb (length xs) (3 * b)) _ _ (λ _ e. let z : ◌≡◌ {A = ℕ} 8 2 = ap number_of e in omega arith)
    (λ t e.
    let r : (512 ≤ b) × (b ≤ 4096) = size-range b (not-false (good_size b) g) in
    let n : 3 * b ≤ length xs = ltb-false (length xs) (3 * b) t in
    omega (arith, short-tells xs ((length xs - b) / b * b) e, last_block (length xs) b (omega arith))))
  where
    Q : Answer Header → Type 0
    Q a = a ≡ refuse 2 → ⊥
