use Rattle.tg_unixfs.specs.declared.TheConstants.{DATA}
use Rattle.tg_unixfs.proofs.Parts.{data_table}
use Rattle.tg_unixfs.proofs.Same.{texts_alike}
use Rattle.tg_unixfs.proofs.laws.one_text.Goals as goal

pub returns : goal.returns
returns c = λ unix s t a b.
    let laws = c.table_laws.ensures in
    laws.messages.ascending DATA.now s t a.is_text.fields b.is_text.fields (data_table laws) a.is_text.message b.is_text.message (texts_alike laws s t unix a b)
