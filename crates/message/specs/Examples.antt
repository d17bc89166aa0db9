-- The words on examples: a slot, a table and a difference as the hosts say them, no refusal, and a number that the library does not have. Assumes nothing.
use Rattle.std.specs.Prelude.{◌≡◌, refl}
use Rattle.text.specs.Digits.{digit_of, digits}
use Rattle.text.specs.Texts.{ascii}
use Rattle.message.specs.Words.{first_texts, later_texts, placed_texts, text_in, text_at, placed_line, disagree_line, line_for, reached, digit_count, decimal, slot_words, message_text}

pub of-a-slot : message_text 22 0 128 ≡ ascii "refused 22, Overlap: a block that another slot has (slot 128)"
unfolding message_text line_for disagree_line placed_line text_at text_in first_texts later_texts placed_texts slot_words decimal digit_count reached digits digit_of
of-a-slot = refl

pub of-a-table : message_text 6 2 0 ≡ ascii "refused 6, PartsCrc: the back table's entry check sum does not match"
unfolding message_text line_for disagree_line placed_line text_at text_in first_texts later_texts placed_texts slot_words
of-a-table = refl

pub of-a-difference : message_text 17 4 5 ≡ ascii "refused 17, Disagree: the two tables differ, first in slot 5"
unfolding message_text line_for disagree_line placed_line text_at text_in first_texts later_texts placed_texts slot_words decimal digit_count reached digits digit_of
of-a-difference = refl

pub of_none : message_text 0 0 7 ≡ ascii "accepted"
unfolding message_text line_for disagree_line placed_line text_at text_in first_texts later_texts placed_texts slot_words
of_none = refl

pub of-another : message_text 4294967295 1 4294967295 ≡ ascii "the library has no such number"
unfolding message_text line_for disagree_line placed_line text_at text_in first_texts later_texts placed_texts slot_words
of-another = refl
