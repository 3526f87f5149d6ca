use Rattle.tg_words.proofs.QueryAnswers.{one_query}
use Rattle.tg_words.proofs.FetchAnswers.{one_raw}
use Rattle.tg_words.proofs.IntoAnswers.{one_into}
use Rattle.tg_words.proofs.Lines.{one_line}
use Rattle.tg_words.proofs.Told.{one_of_both}
use Rattle.tg_words.proofs.one_command.Goals as goal

pub returns : goal.returns
returns c =
    one_of_both
    (one_line c.one_spelling.ensures.one_cid c.one_spelling.ensures.no_front (λ target options. one_query c.roots_read.ensures.word c.spans_read.ensures.span target _ _ _)
    (one_raw c.roots_read.ensures.word) (one_into c.roots_read.ensures.word))
