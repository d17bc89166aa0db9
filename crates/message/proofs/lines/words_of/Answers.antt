use Rattle.std.proofs.Common.{◌≡◌, sym, ap, arith}
use Rattle.message.specs.Words.{text_at, text_in, first_texts, later_texts, placed_texts}
use Rattle.message.proofs.lines.words_of.Goals as goal

pub returns-in-0-clause-text : goal.returns-in-0-clause-text
unfolding text_at text_in first_texts
returns-in-0-clause-text c = sym (ap text_at c.in-0.is)

pub returns-in-1-clause-text : goal.returns-in-1-clause-text
unfolding text_at text_in first_texts
returns-in-1-clause-text c = sym (ap text_at c.in-1.is)

pub returns-in-2-clause-text : goal.returns-in-2-clause-text
unfolding text_at text_in first_texts
returns-in-2-clause-text c = sym (ap text_at c.in-2.is)

pub returns-in-3-clause-text : goal.returns-in-3-clause-text
unfolding text_at text_in first_texts
returns-in-3-clause-text c = sym (ap text_at c.in-3.is)

pub returns-in-4-clause-text : goal.returns-in-4-clause-text
unfolding text_at text_in first_texts
returns-in-4-clause-text c = sym (ap text_at c.in-4.is)

pub returns-in-5-clause-text : goal.returns-in-5-clause-text
unfolding text_at text_in first_texts
returns-in-5-clause-text c = sym (ap text_at c.in-5.is)

pub returns-in-6-clause-text : goal.returns-in-6-clause-text
unfolding text_at text_in first_texts
returns-in-6-clause-text c = sym (ap text_at c.in-6.is)

pub returns-in-7-clause-text : goal.returns-in-7-clause-text
unfolding text_at text_in first_texts
returns-in-7-clause-text c = sym (ap text_at c.in-7.is)

pub returns-in-8-clause-text : goal.returns-in-8-clause-text
unfolding text_at text_in first_texts
returns-in-8-clause-text c = sym (ap text_at c.in-8.is)

pub returns-in-9-clause-text : goal.returns-in-9-clause-text
unfolding text_at text_in first_texts
returns-in-9-clause-text c = sym (ap text_at c.in-9.is)

pub returns-in-10-clause-text : goal.returns-in-10-clause-text
unfolding text_at text_in first_texts
returns-in-10-clause-text c = sym (ap text_at c.in-10.is)

pub returns-in-11-clause-text : goal.returns-in-11-clause-text
unfolding text_at text_in first_texts
returns-in-11-clause-text c = sym (ap text_at c.in-11.is)

pub returns-in-12-clause-text : goal.returns-in-12-clause-text
unfolding text_at text_in first_texts
returns-in-12-clause-text c = sym (ap text_at c.in-12.is)

pub returns-in-13-clause-text : goal.returns-in-13-clause-text
unfolding text_at text_in first_texts
returns-in-13-clause-text c = sym (ap text_at c.in-13.is)

pub returns-in-14-clause-text : goal.returns-in-14-clause-text
unfolding text_at text_in first_texts
returns-in-14-clause-text c = sym (ap text_at c.in-14.is)

pub returns-in-15-clause-text : goal.returns-in-15-clause-text
unfolding text_at text_in first_texts
returns-in-15-clause-text c = sym (ap text_at c.in-15.is)

pub returns-in-16-clause-text : goal.returns-in-16-clause-text
unfolding text_at text_in first_texts
returns-in-16-clause-text c = sym (ap text_at c.in-16.is)

pub returns-in-17-clause-text : goal.returns-in-17-clause-text
unfolding text_at text_in first_texts
returns-in-17-clause-text c = sym (ap text_at c.in-17.is)

pub returns-in-18-clause-text : goal.returns-in-18-clause-text
unfolding text_at text_in first_texts
returns-in-18-clause-text c = sym (ap text_at c.in-18.is)

pub returns-in-19-clause-text : goal.returns-in-19-clause-text
unfolding text_at text_in first_texts
returns-in-19-clause-text c = sym (ap text_at c.in-19.is)

pub returns-in-20-clause-text : goal.returns-in-20-clause-text
unfolding text_at text_in first_texts
returns-in-20-clause-text c = sym (ap text_at c.in-20.is)

pub returns-in-21-clause-text : goal.returns-in-21-clause-text
unfolding text_at text_in later_texts
returns-in-21-clause-text c = sym (ap text_at c.in-21.is)

pub returns-in-22-clause-text : goal.returns-in-22-clause-text
unfolding text_at text_in later_texts
returns-in-22-clause-text c = sym (ap text_at c.in-22.is)

pub returns-in-23-clause-text : goal.returns-in-23-clause-text
unfolding text_at text_in later_texts
returns-in-23-clause-text c = sym (ap text_at c.in-23.is)

pub returns-in-24-clause-text : goal.returns-in-24-clause-text
unfolding text_at text_in later_texts
returns-in-24-clause-text c = sym (ap text_at c.in-24.is)

pub returns-in-25-clause-text : goal.returns-in-25-clause-text
unfolding text_at text_in later_texts
returns-in-25-clause-text c = sym (ap text_at c.in-25.is)

pub returns-in-26-clause-text : goal.returns-in-26-clause-text
unfolding text_at text_in later_texts
returns-in-26-clause-text c = sym (ap text_at c.in-26.is)

pub returns-in-27-clause-text : goal.returns-in-27-clause-text
unfolding text_at text_in later_texts
returns-in-27-clause-text c = sym (ap text_at c.in-27.is)

pub returns-in-28-clause-text : goal.returns-in-28-clause-text
unfolding text_at text_in later_texts
returns-in-28-clause-text c = sym (ap text_at c.in-28.is)

pub returns-in-29-clause-text : goal.returns-in-29-clause-text
unfolding text_at text_in later_texts
returns-in-29-clause-text c = sym (ap text_at c.in-29.is)

pub returns-in-30-clause-text : goal.returns-in-30-clause-text
unfolding text_at text_in later_texts
returns-in-30-clause-text c = sym (ap text_at c.in-30.is)

pub returns-in-31-clause-text : goal.returns-in-31-clause-text
unfolding text_at text_in later_texts
returns-in-31-clause-text c = sym (ap text_at c.in-31.is)

pub returns-in-32-clause-text : goal.returns-in-32-clause-text
unfolding text_at text_in later_texts
returns-in-32-clause-text c = sym (ap text_at c.in-32.is)

pub returns-in-33-clause-text : goal.returns-in-33-clause-text
unfolding text_at text_in later_texts
returns-in-33-clause-text c = sym (ap text_at c.in-33.is)

pub returns-in-34-clause-text : goal.returns-in-34-clause-text
unfolding text_at text_in later_texts
returns-in-34-clause-text c = sym (ap text_at c.in-34.is)

pub returns-in-35-clause-text : goal.returns-in-35-clause-text
unfolding text_at text_in later_texts
returns-in-35-clause-text c = sym (ap text_at c.in-35.is)

pub returns-in-36-clause-text : goal.returns-in-36-clause-text
unfolding text_at text_in later_texts
returns-in-36-clause-text c = sym (ap text_at c.in-36.is)

pub returns-in-37-clause-text : goal.returns-in-37-clause-text
unfolding text_at text_in later_texts
returns-in-37-clause-text c = sym (ap text_at c.in-37.is)

pub returns-in-38-clause-text : goal.returns-in-38-clause-text
unfolding text_at text_in later_texts
returns-in-38-clause-text c = sym (ap text_at c.in-38.is)

pub returns-in-39-clause-text : goal.returns-in-39-clause-text
unfolding text_at text_in later_texts
returns-in-39-clause-text c = sym (ap text_at c.in-39.is)

pub returns-in-40-clause-text : goal.returns-in-40-clause-text
unfolding text_at text_in later_texts
returns-in-40-clause-text c = sym (ap text_at c.in-40.is)

pub returns-in-41-clause-text : goal.returns-in-41-clause-text
unfolding text_at text_in later_texts
returns-in-41-clause-text c = sym (ap text_at c.in-41.is)

pub returns-in-42-clause-text : goal.returns-in-42-clause-text
unfolding text_at text_in placed_texts
returns-in-42-clause-text c = sym (ap text_at c.in-42.is)

pub returns-in-43-clause-text : goal.returns-in-43-clause-text
unfolding text_at text_in placed_texts
returns-in-43-clause-text c = sym (ap text_at c.in-43.is)

pub returns-in-44-clause-text : goal.returns-in-44-clause-text
unfolding text_at text_in placed_texts
returns-in-44-clause-text c = sym (ap text_at c.in-44.is)

pub returns-in-45-clause-text : goal.returns-in-45-clause-text
unfolding text_at text_in placed_texts
returns-in-45-clause-text c = sym (ap text_at c.in-45.is)

pub returns-in-46-clause-text : goal.returns-in-46-clause-text
unfolding text_at text_in placed_texts
returns-in-46-clause-text c = sym (ap text_at c.in-46.is)

pub returns-in-47-clause-text : goal.returns-in-47-clause-text
unfolding text_at text_in placed_texts
returns-in-47-clause-text c = sym (ap text_at c.in-47.is)

pub returns-in-48-clause-text : goal.returns-in-48-clause-text
unfolding text_at text_in placed_texts
returns-in-48-clause-text c = sym (ap text_at c.in-48.is)

pub returns-in-49-clause-text : goal.returns-in-49-clause-text
unfolding text_at text_in placed_texts
returns-in-49-clause-text c = sym (ap text_at c.in-49.is)

pub returns-in-50-clause-text : goal.returns-in-50-clause-text
unfolding text_at text_in placed_texts
returns-in-50-clause-text c = sym (ap text_at c.in-50.is)

pub returns-in_default-clause-text : goal.returns-in_default-clause-text
unfolding text_at text_in placed_texts
returns-in_default-clause-text c = let e : c.args.line ≡ 51 = omega arith in sym (ap text_at e)
