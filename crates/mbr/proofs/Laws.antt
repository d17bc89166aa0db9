-- The laws of the MBR's bytes: their lengths, what is written reads back, what is read is written back, and what a write leaves as it was.
-- No contract cites this file. Assumes nothing.
use mathlib.Core.Path.{◌≡◌, refl, sym, ap, ◌∙◌}
use mathlib.Core.Logic.{◌⊎◌, inl, inr}
use mathlib.Core.Bool.{Bool, true, false, not}
use mathlib.Core.List.{List, [], ◌∷◌, ◌++◌, append_assoc}
use Prim.Native.Nat.{ℕ, zero, suc, ◌+◌, ◌*◌, ◌-◌, ◌^◌, ◌≤◌, ◌<◌}
use native.Mathlib.Nat.{add-zero}
use native.Mathlib.Omega.{arith}
use lib.Dec.{eqb}
use lib.ListN.{length, drop, get_or, length-append, drop_of_length-le}
use lib.Seq.{drop-cons, sets, length-sets, take_at, drop_at, get_or-drop}
use borrow.Author.Tests.{eq-eqb, le-leb, lt-leb, leb-true}
use denote.Shadow.{shadow}
use denote.Array.{each}
use denote.Struct.Declared.{row}
use mir.Val.{Val}
use Rattle.units.specs.Answer.{Answer, accepted, number_of, refuse, pick, gives, Ends}
use Rattle.units.specs.Bytes.{part, num, bytes, same}
use Rattle.units.specs.Places.{good_size, inside}
use Rattle.units.specs.Held.{Small}
use Rattle.units.proofs.Lists.{part_join, length_part, part-part, part-split, part_in, part_same, part_out, sets_then, drop-next, drop-sets}
use Rattle.units.proofs.Laws.{size-range, length-bytes, field-here, num-part, num-out, num-drop, bytes-num, same_refl}
use Rattle.units.proofs.GuidLaws.{tail-part}
use Rattle.mbr.specs.contracts.PartRecord.{the_type as record-type, the_row as record-row}
use Rattle.mbr.specs.contracts.ProtectiveMbr.{the_type as mbr-type}
use Rattle.mbr.specs.declared.PartRecord.{PartRecord}
use Rattle.mbr.specs.declared.ProtectiveMbr.{ProtectiveMbr}
use Rattle.mbr.specs.Format.{record_at, record_bytes, records_bytes, signature, tail_bytes, mbr_at, mbr_bytes, zero_record}
use Rattle.mbr.specs.Parsing.{mbr_parsed, image_parsed, bytes_read}
use Rattle.mbr.specs.Storing.{bytes_stored, whole_stored, tail_stored}

-- ---- records one after the other

pub length-record : (p : PartRecord) → length (record_bytes p) ≡ 16
length-record p = simp (length-append, length-bytes)

pub length-records : (ps : List PartRecord) → length (records_bytes ps) ≡ 16 * length ps
unfolding records_bytes
length-records [] = refl
length-records (p ∷ ps) = omega (arith, length-append (record_bytes p) (records_bytes ps), length-record p, length-records ps)

-- the next record stored, and then those that are left, is all
pub records-more : (s : List ℕ) (ps : List PartRecord) (at i : ℕ) (d : PartRecord) → i < length ps
    → sets (sets s (at + 16 * i) (record_bytes (get_or ps i d))) (at + 16 * (i + 1)) (records_bytes (drop (i + 1) ps)) ≡ sets s (at + 16 * i) (records_bytes (drop i ps))
unfolding records_bytes
records-more s ps at i d h =
    let a : i + 1 ≡ suc i = omega arith in
    sets_then s (at + 16 * i) (record_bytes (get_or ps i d)) (at + 16 * (i + 1)) (records_bytes (drop (i + 1) ps)) (omega (arith, length-record (get_or ps i d)))
    ∙ rw (drop-cons ps i d h, a)

pub records-none : (s : List ℕ) (ps : List PartRecord) (p i : ℕ) → length ps ≤ i → sets s p (records_bytes (drop i ps)) ≡ s
unfolding records_bytes
records-none s ps p i h = rw (drop_of_length-le ps h)

-- ---- what owning a record or an MBR tells

-- the numbers of a record fit their fields
pub record FitRecord (p : PartRecord) : Type 0 where
  pub start : p.lb_start < 2 ^ 32
  pub size : p.lb_size < 2 ^ 32

-- the arrays of an MBR have their lengths, and its numbers fit their fields
pub record FitMbr (m : ProtectiveMbr) : Type 0 where
  pub boot : length m.bootcode ≡ 440
  pub sign : length m.disk_signature ≡ 4
  pub unknown : m.unknown < 2 ^ 16
  pub count : length m.partitions ≡ 4
  pub records : (i : ℕ) → FitRecord (get_or m.partitions i zero_record)

pub fit-record-of : (p : PartRecord) (vs : List Val) → shadow ((row record-type).own_val p vs) → FitRecord p
fit-record-of p vs o =
    let f = o.1.1 in
    record { start = f.1.1.1.1.1.1.1.1.0.1; size = f.1.1.1.1.1.1.1.1.1.0.1 }

fits_each : (ps : List PartRecord) (us : List Val) (i : ℕ) → shadow (each record-row.Denot record-row.own_val ps us) → FitRecord (get_or ps i zero_record)
fits_each [] us i s = record { start = omega arith; size = omega arith }
fits_each (p ∷ ps) [] i s = absurd s
fits_each (p ∷ ps) (u ∷ us) zero s =
    let f = s.0.1.1 in
    record { start = f.1.1.1.1.1.1.1.1.0.1; size = f.1.1.1.1.1.1.1.1.1.0.1 }
fits_each (p ∷ ps) (u ∷ us) (suc i) s = fits_each ps us i s.1

pub fit-mbr-of : (m : ProtectiveMbr) (vs : List Val) → shadow ((row mbr-type).own_val m vs) → FitMbr m
fit-mbr-of m vs o =
    let f = o.1.1 in
    record {
      boot = f.0.1.0.1;
      sign = f.1.0.1.0.1;
      unknown = f.1.1.0.1;
      count = f.1.1.1.0.1.0.1;
      records = λ i. fits_each m.partitions _ i f.1.1.1.0.1.1;
    }

-- ---- lengths

pub length-tail : (ps : List PartRecord) → length ps ≡ 4 → length (tail_bytes ps) ≡ 66
length-tail ps h = simp length-append (omega (arith, length-records ps))

pub length-mbr : (m : ProtectiveMbr) → FitMbr m → length (mbr_bytes m) ≡ 512
length-mbr m f = simp (length-append, length-bytes) (omega (arith, f.boot, f.sign, f.count, length-records m.partitions))

-- ---- the ways out of the calls

pub image-short : (xs : List ℕ) (b : ℕ) → good_size b ≡ true → length xs < b → image_parsed xs b ≡ refuse 2
unfolding image_parsed inside
image-short xs b g h = rw (g, lt-leb (0 + b) (length xs) (omega arith))

pub image-parsed : (xs : List ℕ) (b : ℕ) → good_size b ≡ true → b ≤ length xs → image_parsed xs b ≡ mbr_parsed (part xs 0 b) b
unfolding image_parsed inside
image-parsed xs b g h = rw (g, le-leb (0 + b) (length xs) (omega arith))

pub read_short : (xs : List ℕ) (at n : ℕ) → length xs < at + n → bytes_read xs at n ≡ refuse 2
unfolding bytes_read inside
read_short xs at n h = rw (lt-leb (at + n) (length xs) h)

pub read_all : (xs : List ℕ) (at n : ℕ) → at + n ≤ length xs → bytes_read xs at n ≡ accepted (part xs at n)
unfolding bytes_read inside
read_all xs at n h = rw (le-leb (at + n) (length xs) h)

-- for bytes of a known length
pub store-short : (xs : List ℕ) (at : ℕ) (vs : List ℕ) (n : ℕ) → length vs ≡ n → length xs < at + n → bytes_stored xs at vs ≡ gives (refuse 2) xs
unfolding bytes_stored inside
store-short xs at vs n e h = rw (lt-leb (at + length vs) (length xs) (omega arith))

pub store-all : (xs : List ℕ) (at : ℕ) (vs : List ℕ) (n : ℕ) → length vs ≡ n → at + n ≤ length xs → bytes_stored xs at vs ≡ gives (accepted n) (sets xs at vs)
unfolding bytes_stored inside
store-all xs at vs n e h = rw (le-leb (at + length vs) (length xs) (omega arith), e)

-- ---- what was written reads back

record-eq : (a b c d e f g h : ℕ) {x y x' y' : ℕ} → x ≡ x' → y ≡ y'
    → ◌≡◌ {A = PartRecord}
    (record { boot_indicator = a; start_head = b; start_sector = c; start_track = d; os_type = e; end_head = f; end_sector = g; end_track = h; lb_start = x; lb_size = y })
    (record { boot_indicator = a; start_head = b; start_sector = c; start_track = d; os_type = e; end_head = f; end_sector = g; end_track = h; lb_start = x'; lb_size = y' })
record-eq a b c d e f g h p q = cc

record-front : (p : PartRecord) (r : List ℕ) → FitRecord p → record_at (record_bytes p ++ r) 0 ≡ p
record-front p r f =
    let X : List ℕ = record_bytes p ++ r in
    let d8 : drop 8 X ≡ bytes 4 p.lb_start ++ (bytes 4 p.lb_size ++ r) = simp append_assoc in
    let d12 : drop 12 X ≡ bytes 4 p.lb_size ++ r = drop-next X 8 (bytes 4 p.lb_start) _ 12 d8 (rw length-bytes) in
    record-eq _ _ _ _ _ _ _ _ (field-here X 8 4 p.lb_start _ d8 f.start) (field-here X 12 4 p.lb_size _ d12 f.size)

record-drop : (xs : List ℕ) (at : ℕ) → record_at xs at ≡ record_at (drop at xs) 0
record-drop xs at = simp (get_or-drop, ← num-drop, add-zero)

-- where a record's bytes stand, the record is read
pub record-here : (xs : List ℕ) (at : ℕ) (p : PartRecord) (r : List ℕ) → drop at xs ≡ record_bytes p ++ r → FitRecord p → record_at xs at ≡ p
record-here xs at p r e f = record-drop xs at ∙ rw e (record-front p r f)

pub record-back : (p : PartRecord) (xs : List ℕ) (at : ℕ) → FitRecord p → at + 16 ≤ length xs → record_at (sets xs at (record_bytes p)) at ≡ p
record-back p xs at f h =
    record-here (sets xs at (record_bytes p)) at p _ (drop-sets xs at (record_bytes p) (omega (arith, length-record p))) f

-- a list of four by its elements
four : (ps : List PartRecord) → length ps ≡ 4 → ps ≡ get_or ps 0 zero_record ∷ get_or ps 1 zero_record ∷ get_or ps 2 zero_record ∷ get_or ps 3 zero_record ∷ []
four [] h = absurd (omega arith)
four (a ∷ []) h = absurd (omega arith)
four (a ∷ b ∷ []) h = absurd (omega arith)
four (a ∷ b ∷ c ∷ []) h = absurd (omega arith)
four (a ∷ b ∷ c ∷ d ∷ []) h = refl
four (a ∷ b ∷ c ∷ d ∷ e ∷ ps) h = absurd (omega arith)

-- where four records' bytes stand from byte 446 on, the four are read
four-here : (xs : List ℕ) (k : ℕ) (a b c d : PartRecord) (r : List ℕ) → drop (k + 446) xs ≡ records_bytes (a ∷ b ∷ c ∷ d ∷ []) ++ r
    → FitRecord a → FitRecord b → FitRecord c → FitRecord d
    → (mbr_at xs k).partitions ≡ a ∷ b ∷ c ∷ d ∷ []
unfolding records_bytes
four-here xs k a b c d r e fa fb fc fd =
    let D : List ℕ = record_bytes d ++ r in
    let C : List ℕ = record_bytes c ++ D in
    let B : List ℕ = record_bytes b ++ C in
    let d0 : drop (k + 446) xs ≡ record_bytes a ++ B = e ∙ simp append_assoc in
    let d1 : drop (k + 462) xs ≡ B = drop-next xs (k + 446) (record_bytes a) B (k + 462) d0 (omega (arith, length-record a)) in
    let d2 : drop (k + 478) xs ≡ C = drop-next xs (k + 462) (record_bytes b) C (k + 478) d1 (omega (arith, length-record b)) in
    let d3 : drop (k + 494) xs ≡ D = drop-next xs (k + 478) (record_bytes c) D (k + 494) d2 (omega (arith, length-record c)) in
    cc (record-here xs (k + 446) a B d0 fa, record-here xs (k + 462) b C d1 fb, record-here xs (k + 478) c D d2 fc, record-here xs (k + 494) d r d3 fd)

-- where the tail of an MBR stands, its records are read
tail-here : (xs : List ℕ) (at : ℕ) (m : ProtectiveMbr) (r : List ℕ) → FitMbr m → drop (at + 446) xs ≡ tail_bytes m.partitions ++ r → (mbr_at xs at).partitions ≡ m.partitions
tail-here xs at m r f e =
    let ps = m.partitions in
    let q = four ps f.count in
    let g : ℕ → PartRecord = λ i. get_or ps i zero_record in
    let d : drop (at + 446) xs ≡ records_bytes (g 0 ∷ g 1 ∷ g 2 ∷ g 3 ∷ []) ++ (signature ++ r) =
    e ∙ append_assoc (records_bytes ps) signature r ∙ ap (λ (l : List PartRecord). records_bytes l ++ (signature ++ r)) q in
    four-here xs at (g 0) (g 1) (g 2) (g 3) _ d (f.records 0) (f.records 1) (f.records 2) (f.records 3) ∙ sym q

mbr-eq : {a b a' b' : List ℕ} {u u' : ℕ} {p p' : List PartRecord} → a ≡ a' → b ≡ b' → u ≡ u' → p ≡ p'
    → ◌≡◌ {A = ProtectiveMbr}
    (record { bootcode = a; disk_signature = b; unknown = u; partitions = p })
    (record { bootcode = a'; disk_signature = b'; unknown = u'; partitions = p' })
mbr-eq p q r s = cc

-- where an MBR's bytes stand, the MBR is read
pub mbr-here : (xs : List ℕ) (at : ℕ) (m : ProtectiveMbr) (r : List ℕ) → FitMbr m → drop at xs ≡ mbr_bytes m ++ r → mbr_at xs at ≡ m
mbr-here xs at m r f e =
    let T : List ℕ = tail_bytes m.partitions ++ r in
    let U : List ℕ = bytes 2 m.unknown ++ T in
    let S : List ℕ = m.disk_signature ++ U in
    let d0 : drop at xs ≡ m.bootcode ++ S = e ∙ simp append_assoc in
    let d1 : drop (at + 440) xs ≡ S = drop-next xs at m.bootcode S (at + 440) d0 (omega (arith, f.boot)) in
    let d2 : drop (at + 444) xs ≡ U = drop-next xs (at + 440) m.disk_signature U (at + 444) d1 (omega (arith, f.sign)) in
    let d3 : drop (at + 446) xs ≡ T = drop-next xs (at + 444) (bytes 2 m.unknown) T (at + 446) d2 (omega (arith, length-bytes 2 m.unknown)) in
    mbr-eq
    (rw d0 (take_at m.bootcode S 440 f.boot))
    (rw d1 (take_at m.disk_signature U 4 f.sign))
    (field-here xs (at + 444) 2 m.unknown T d2 f.unknown)
    (tail-here xs at m r f d3)

pub mbr-back : (m : ProtectiveMbr) (xs : List ℕ) (at : ℕ) → FitMbr m → at + 512 ≤ length xs → mbr_at (sets xs at (mbr_bytes m)) at ≡ m
mbr-back m xs at f h =
    mbr-here (sets xs at (mbr_bytes m)) at m _ f (drop-sets xs at (mbr_bytes m) (omega (arith, length-mbr m f)))

-- ---- what was read is written back: with 55 AA the fields are the whole of the 512 bytes

pub record-bytes-back : (xs : List ℕ) (at : ℕ) → at + 16 ≤ length xs → Small xs → record_bytes (record_at xs at) ≡ part xs at 16
record-bytes-back xs at h b =
    let l : at + 8 ≤ length xs = omega arith in
    rw (bytes-num xs (at + 8) 4 (omega arith) b, bytes-num xs (at + 12) 4 (omega arith) b)
    (ap (λ (l : List ℕ). l ++ (part xs (at + 8) 4 ++ part xs (at + 12) 4)) (tail-part xs at l)
    ∙ sym (part-split xs at 8 8 ∙ rw (sym (part_join xs (at + 8) 4 (at + 12) 4 8 (omega arith) refl))))

both : {a a' b b' : List ℕ} → a ≡ a' → b ≡ b' → a ++ b ≡ a' ++ b'
both p q = cc

-- one record more in front
records-front : (xs : List ℕ) (j k m : ℕ) (ps : List PartRecord) (t : List ℕ) → j + 16 ≡ k → j + 16 ≤ length xs → Small xs → records_bytes ps ++ t ≡ part xs k m
    → records_bytes (record_at xs j ∷ ps) ++ t ≡ part xs j (16 + m)
unfolding records_bytes
records-front xs j k m ps t q h b e =
    append_assoc (record_bytes (record_at xs j)) (records_bytes ps) t ∙ both (record-bytes-back xs j h b) e ∙ part_join xs j 16 k m (16 + m) q refl

pub tail-bytes-back : (xs : List ℕ) (at : ℕ) → at + 512 ≤ length xs → Small xs → part xs (at + 510) 2 ≡ signature → tail_bytes (mbr_at xs at).partitions ≡ part xs (at + 446) 66
unfolding records_bytes
tail-bytes-back xs at h b e =
    let D : List PartRecord = record_at xs (at + 494) ∷ [] in
    let C : List PartRecord = record_at xs (at + 478) ∷ D in
    let B : List PartRecord = record_at xs (at + 462) ∷ C in
    records-front xs (at + 446) (at + 462) 50 B signature (omega arith) (omega arith) b
    (records-front xs (at + 462) (at + 478) 34 C signature (omega arith) (omega arith) b
    (records-front xs (at + 478) (at + 494) 18 D signature (omega arith) (omega arith) b
    (records-front xs (at + 494) (at + 510) 2 [] signature (omega arith) (omega arith) b (sym e))))

pub mbr-bytes-back : (xs : List ℕ) (at : ℕ) → at + 512 ≤ length xs → Small xs → part xs (at + 510) 2 ≡ signature → mbr_bytes (mbr_at xs at) ≡ part xs at 512
mbr-bytes-back xs at h b e =
    let u : part xs (at + 444) 68 ≡ part xs (at + 444) 2 ++ part xs (at + 446) 66 = sym (part_join xs (at + 444) 2 (at + 446) 66 68 (omega arith) refl) in
    let s : part xs (at + 440) 72 ≡ part xs (at + 440) 4 ++ part xs (at + 444) 68 = sym (part_join xs (at + 440) 4 (at + 444) 68 72 (omega arith) refl) in
    both {a = part xs at 440} refl (both {a = part xs (at + 440) 4} refl (both (bytes-num xs (at + 444) 2 (omega arith) b) (tail-bytes-back xs at h b e) ∙ sym u) ∙ sym s) ∙ sym (part-split xs at 440 72)

-- ---- what a write leaves, and what is read after it

-- the image after bytes were stored, or were refused, is as it was beside their place
store_keeps : (xs : List ℕ) (at : ℕ) (vs : List ℕ) {r : Answer ℕ} {ys : List ℕ} (b n : ℕ) → Ends (bytes_stored xs at vs) r ys → (b + n ≤ at) ⊎ (at + length vs ≤ b) → part ys b n ≡ part xs b n
unfolding bytes_stored
store_keeps xs at vs b n e o = ap (λ (l : List ℕ). part l b n) e.image ∙ go (not (inside (length xs) at (length vs)))
  where
    go : (t : Bool) → part (pick t (gives {A = Answer ℕ} (refuse 2) xs) (gives (accepted (length vs)) (sets xs at vs))).image b n ≡ part xs b n
    go true = refl
    go false = part_out xs at vs b n o

-- the full write changes nothing from byte 512 on, whatever the block size is
pub whole-keeps-rest : (xs : List ℕ) (m : ProtectiveMbr) {r : Answer ℕ} {ys : List ℕ} (at n : ℕ) → FitMbr m → Ends (whole_stored xs m) r ys → 512 ≤ at → part ys at n ≡ part xs at n
whole-keeps-rest xs m at n f e h = store_keeps xs 0 (mbr_bytes m) at n e (inr (omega (arith, length-mbr m f)))

-- the conservative write changes nothing below byte 446 and nothing from byte 512 on
pub tail-keeps-front : (xs : List ℕ) (m : ProtectiveMbr) {r : Answer ℕ} {ys : List ℕ} (at n : ℕ) → FitMbr m → Ends (tail_stored xs m) r ys → (at + n ≤ 446) ⊎ (512 ≤ at) → part ys at n ≡ part xs at n
tail-keeps-front xs m at n f e (inl h) = store_keeps xs 446 (tail_bytes m.partitions) at n e (inl h)
tail-keeps-front xs m at n f e (inr h) = store_keeps xs 446 (tail_bytes m.partitions) at n e (inr (omega (arith, length-tail m.partitions f.count)))

-- 55 AA are the last two of its bytes
mbr-sign : (m : ProtectiveMbr) (r : List ℕ) → FitMbr m → part (mbr_bytes m ++ r) 510 2 ≡ signature
mbr-sign m r f =
    let P : List ℕ = m.bootcode ++ (m.disk_signature ++ (bytes 2 m.unknown ++ records_bytes m.partitions)) in
    let e : mbr_bytes m ++ r ≡ P ++ (signature ++ r) = simp append_assoc in
    let l : length P ≡ 510 = simp (length-append, length-bytes) (omega (arith, f.boot, f.sign, f.count, length-records m.partitions)) in
    rw (e, drop_at P (signature ++ r) 510 l)

-- a block that ends its first 512 bytes in 55 AA is read by its fields
pub signed-parsed : (xs : List ℕ) (b : ℕ) → good_size b ≡ true → length xs ≡ b → part xs 510 2 ≡ signature → mbr_parsed xs b ≡ accepted (mbr_at xs 0)
unfolding mbr_parsed
signed-parsed xs b g l s = rw (g, eq-eqb (length xs) b l, s, same_refl signature)

-- a block that begins with the bytes of an MBR is read as this MBR
pub block-parsed : (xs : List ℕ) (b : ℕ) (m : ProtectiveMbr) (r : List ℕ) → FitMbr m → good_size b ≡ true → length xs ≡ b → xs ≡ mbr_bytes m ++ r → mbr_parsed xs b ≡ accepted m
block-parsed xs b m r f g l e =
    signed-parsed xs b g l (ap (λ (z : List ℕ). part z 510 2) e ∙ mbr-sign m r f) ∙ ap accepted (mbr-here xs 0 m r f e)

-- after the full write into an image of at least one block, block 0 reads as what was written
pub whole-reads-back : (xs : List ℕ) (m : ProtectiveMbr) {r : Answer ℕ} {ys : List ℕ} (b : ℕ) → FitMbr m → good_size b ≡ true → b ≤ length xs → Ends (whole_stored xs m) r ys
    → (r ≡ accepted 512) × (image_parsed ys b ≡ accepted m)
whole-reads-back xs m b f g h e =
    let l : length (mbr_bytes m) ≡ 512 = length-mbr m f in
    let k : 512 ≤ b = (size-range b g).0 in
    let Y : List ℕ = sets xs 0 (mbr_bytes m) in
    let n : length Y ≡ length xs = length-sets xs 0 (mbr_bytes m) in
    let s : whole_stored xs m ≡ gives (accepted 512) Y = store-all xs 0 (mbr_bytes m) 512 l (omega arith) in
    let i : b ≡ 512 + (b - 512) = omega arith in
    let c : part Y 0 512 ≡ mbr_bytes m = rw l at (part_same xs 0 (mbr_bytes m) (omega arith)) in
    let d : part Y 0 b ≡ mbr_bytes m ++ part Y 512 (b - 512) = ap (λ (z : ℕ). part Y 0 z) i ∙ part-split Y 0 512 (b - 512) ∙ both c refl in (
      e.answer ∙ ap (λ o. o.answer) s,
      ap (λ (z : List ℕ). image_parsed z b) (e.image ∙ ap (λ o. o.image) s)
          ∙ image-parsed Y b g (omega arith)
          ∙ block-parsed (part Y 0 b) b m _ f g (length_part Y 0 b (omega arith)) d,
    )

-- after the conservative write block 0 reads as what stood there, with the records that were written
pub tail-reads-back : (xs : List ℕ) (m : ProtectiveMbr) {r : Answer ℕ} {ys : List ℕ} (b : ℕ) → FitMbr m → good_size b ≡ true → b ≤ length xs → Ends (tail_stored xs m) r ys
    → (r ≡ accepted 66)
    × (image_parsed ys b ≡ accepted (record { bootcode = part xs 0 440; disk_signature = part xs 440 4; unknown = num xs 444 2; partitions = m.partitions }))
tail-reads-back xs m b f g h e =
    let ps = m.partitions in
    let T : List ℕ = tail_bytes ps in
    let Y : List ℕ = sets xs 446 T in
    let Z : List ℕ = part Y 0 b in
    let l : length T ≡ 66 = length-tail ps f.count in
    let k : 512 ≤ b = (size-range b g).0 in
    let n : length Y ≡ length xs = length-sets xs 446 T in
    let s : tail_stored xs m ≡ gives (accepted 66) Y = store-all xs 446 T 66 l (omega arith) in
    let i : b ≡ 446 + (66 + (b - 512)) = omega arith in
    let c : part Y 446 66 ≡ T = rw l at (part_same xs 446 T (omega arith)) in
    let d : Z ≡ part Y 0 446 ++ (T ++ part Y 512 (b - 512)) =
    ap (λ (z : ℕ). part Y 0 z) i ∙ part-split Y 0 446 (66 + (b - 512)) ∙ both {a = part Y 0 446} refl (part-split Y 446 66 (b - 512) ∙ both c refl) in
    let q : drop 446 Z ≡ T ++ part Y 512 (b - 512) = rw d (drop_at (part Y 0 446) (T ++ part Y 512 (b - 512)) 446 (length_part Y 0 446 (omega arith))) in
    let w : part Z 510 2 ≡ signature =
    part-part Y 0 b 510 2 (omega arith) ∙ part_in xs 446 T 64 2 (omega arith) (omega arith) ∙ rw (drop_at (records_bytes ps) signature 64 (omega (arith, length-records ps, f.count))) in (
      e.answer ∙ ap (λ o. o.answer) s,
      ap (λ (z : List ℕ). image_parsed z b) (e.image ∙ ap (λ o. o.image) s)
          ∙ image-parsed Y b g (omega arith)
          ∙ signed-parsed Z b g (length_part Y 0 b (omega arith)) w
          ∙ ap accepted
          (mbr-eq
          (part-part Y 0 b 0 440 (omega arith) ∙ part_out xs 446 T 0 440 (inl (omega arith)))
          (part-part Y 0 b 440 4 (omega arith) ∙ part_out xs 446 T 440 4 (inl (omega arith)))
          (num-part Y 0 b 444 2 (omega arith) ∙ num-out xs 446 T 444 2 (inl (omega arith)))
          (tail-here Z 0 m _ f q)),
    )

-- the tests of block 0 in their order: inside the image the length test holds
never-12 : {A : Type 0} (g i q s : Bool) (x : A) → (i ≡ true → q ≡ true)
    → pick (not g) (refuse 1) (pick (not i) (refuse 2) (pick (not g) (refuse 1) (pick (not q) (refuse 12) (pick (not s) (refuse 13) (accepted x))))) ≡ refuse 12
    → ⊥
never-12 false i q s x h e = let z : ◌≡◌ {A = ℕ} 1 12 = ap number_of e in omega arith
never-12 true false q s x h e = let z : ◌≡◌ {A = ℕ} 2 12 = ap number_of e in omega arith
never-12 true true true false x h e = let z : ◌≡◌ {A = ℕ} 13 12 = ap number_of e in omega arith
never-12 true true true true x h e = let z : ◌≡◌ {A = ℕ} 0 12 = ap number_of e in omega arith
never-12 true true false s x h e = let z : ◌≡◌ {A = ℕ} 0 1 = cc (h refl) in omega arith

-- from an image the length is never wrong: fewer bytes than a block are 2
pub from-image-12-never : (xs : List ℕ) (b : ℕ) → image_parsed xs b ≡ refuse 12 → ⊥
unfolding image_parsed mbr_parsed inside
from-image-12-never xs b e =
    never-12 (good_size b) (inside (length xs) 0 b) (eqb (length (part xs 0 b)) b) (same (part (part xs 0 b) 510 2) signature) (mbr_at (part xs 0 b) 0)
    (λ i. eq-eqb (length (part xs 0 b)) b (length_part xs 0 b (leb-true (0 + b) (length xs) i)))
    e
