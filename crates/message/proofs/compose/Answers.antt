use Rattle.std.proofs.Common.{◌≡◌, ◌∙◌, ap, arith, length}
use Rattle.std.proofs.lemmas.List.Edits.{sets}
use Rattle.text.proofs.Laws.{put_first}
use Rattle.message.specs.Words.{message_text, text_at}
use Rattle.message.proofs.Laws.{composed}
use Rattle.message.proofs.compose.Goals as goal

pub returns : goal.returns
unfolding message_text
returns c =
    let a = c.args in
    let k = c.put_slot.ensures in
    let line = c.line_for-line.result in
    let words = c.as_bytes-words.result.now in
    let told : words ≡ text_at line = c.as_bytes-words.ensures.value ∙ c.words_of.ensures.text in
    let stored = put_first a.out.now words (omega (arith, ap length c.as_bytes-words.ensures.value)) ∙ ap (sets a.out.now 0) told in
    let m = composed a.out.now line a.slot (ap length told) (rw c.copy_from_slice.ensures.after stored) k.0 k.2 in
    rw (← c.line_for-line.ensures.0) (m.0, k.1, m.1)
