-- Each law is a lemma over plain lists.
use Rattle.tg_base32.proofs.ComputedText.{text_law}
use Rattle.tg_base32.proofs.Texts.{one_reading, one_spelling}
use Rattle.tg_base32.proofs.laws.text_laws.Goals as goal

pub returns : goal.returns
returns c = record { one_reading = one_reading; one_text = one_spelling; computed = text_law }
