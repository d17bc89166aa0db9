-- Cases at the edges of document 01, P1 to P4 and P12, over the definitions of the card. Assumes nothing.
use Rattle.std.specs.Prelude.{◌≡◌, refl, ◌+◌, ◌*◌, replicate}
use Rattle.units.specs.Answer.{refuse, or_else, judged}
use Rattle.units.specs.Places.{good_size}
use Rattle.tables.specs.Places.{first_usable_of, last_usable_of, back_array, back_header}
use Rattle.tables.specs.Check.{room_check, check, check_answer}

pub record Edges : Type 0 where
  -- P1: B 512, backup 67: usable 34 to 34, backup array at 35
  pub p1 : (room_check 512 (68 * 512)).number ≡ 0
  pub p1-first : first_usable_of 512 ≡ 34
  pub p1-last : last_usable_of 512 (68 * 512) ≡ 34
  pub p1-array : back_array 512 (68 * 512) ≡ 35 * 512
  pub p1-back : back_header 512 (68 * 512) ≡ 67 * 512
  -- P2: backup 66
  pub p2 : (room_check 512 (67 * 512)).number ≡ 10
  -- P3, P4: B 4,096
  pub p3 : (room_check 4096 (12 * 4096)).number ≡ 0
  pub p3-first : first_usable_of 4096 ≡ 6
  pub p3-last : last_usable_of 4096 (12 * 4096) ≡ 6
  pub p4 : (room_check 4096 (11 * 4096)).number ≡ 10
  -- P12: L 1,535 is below three blocks; L 1,600 has its backup at block 2, and no room for a card
  pub p12-short : (room_check 512 1535).number ≡ 8
  pub p12-long : (room_check 512 1600).number ≡ 10
  pub p12-back : back_header 512 1600 ≡ 2 * 512
  -- 1 comes before all others
  pub bad : (room_check 1024 (68 * 512)).number ≡ 1
  -- what does not fill a block at the end of an image belongs to no table
  pub rest : back_header 512 (68 * 512 + 511) ≡ back_header 512 (68 * 512)

pub edges : Edges
unfolding room_check or_else good_size first_usable_of last_usable_of back_array back_header
edges =
    record {
      p1 = refl;
      p1-first = refl;
      p1-last = refl;
      p1-array = refl;
      p1-back = refl;
      p2 = refl;
      p3 = refl;
      p3-first = refl;
      p3-last = refl;
      p4 = refl;
      p12-short = refl;
      p12-long = refl;
      p12-back = refl;
      bad = refl;
      rest = refl;
    }

-- an empty image is refused before a byte of it is read
pub empty-image : check_answer 512 (replicate 0 0) ≡ refuse 8
unfolding judged check or_else room_check good_size
empty-image = refl
