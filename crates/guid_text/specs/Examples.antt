-- The definitions on texts from outside: the type of an EFI system partition as UEFI 2.10, table 5-7, gives it, told in lower case and read in upper case, and texts that are no GUIDs. Assumes nothing.
use Rattle.std.specs.Prelude.{◌≡◌, refl}
use Rattle.units.specs.declared.Guid.{Guid}
use Rattle.text.specs.Digits.{digit_of, digits}
use Rattle.text.specs.Ranges.{between}
use Rattle.text.specs.Texts.{ascii}
use Rattle.guid_text.specs.GuidTexts.{big, text_of_guid, dash_place, right_at, wrong_from, tail_in, guid_in, guid_of_text, bad_guid}
use Rattle.guid_text.specs.Hex.{hex_digit_value, hex_after}

abbrev system_partition : Guid
system_partition = record { time_low = 0xC12A7328; time_mid = 0xF81F; time_high = 0x11D2; tail = record { 0 = 0xBA; 1 = 0x4B; 2 = 0x00; 3 = 0xA0; 4 = 0xC9; 5 = 0x3E; 6 = 0xC9; 7 = 0x3B } }

pub writes-lower-case : text_of_guid system_partition ≡ ascii "c12a7328-f81f-11d2-ba4b-00a0c93ec93b"
unfolding text_of_guid digits digit_of big
writes-lower-case = refl

pub reads-upper-case : guid_of_text (ascii "C12A7328-F81F-11D2-BA4B-00A0C93EC93B") ≡ record { number = 0; at = 0; guid = system_partition }
unfolding guid_of_text wrong_from right_at dash_place hex_digit_value between guid_in tail_in hex_after
reads-upper-case = refl

pub short-text : guid_of_text (ascii "c12a7328-f81f-11d2-ba4b-00a0c93ec93") ≡ bad_guid 35
unfolding guid_of_text wrong_from right_at dash_place hex_digit_value between guid_in tail_in hex_after
short-text = refl

pub long-text : guid_of_text (ascii "c12a7328-f81f-11d2-ba4b-00a0c93ec93b}") ≡ bad_guid 36
unfolding guid_of_text wrong_from right_at dash_place hex_digit_value between guid_in tail_in hex_after
long-text = refl

pub braces : guid_of_text (ascii "{c12a7328-f81f-11d2-ba4b-00a0c93ec93b}") ≡ bad_guid 0
unfolding guid_of_text wrong_from right_at dash_place hex_digit_value between guid_in tail_in hex_after
braces = refl

pub no-dash : guid_of_text (ascii "c12a7328xf81f-11d2-ba4b-00a0c93ec93b") ≡ bad_guid 8
unfolding guid_of_text wrong_from right_at dash_place hex_digit_value between guid_in tail_in hex_after
no-dash = refl

pub no_digit : guid_of_text (ascii "c12a7328-f81g-11d2-ba4b-00a0c93ec93b") ≡ bad_guid 12
unfolding guid_of_text wrong_from right_at dash_place hex_digit_value between guid_in tail_in hex_after
no_digit = refl
