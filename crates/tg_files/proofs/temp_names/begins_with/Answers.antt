use Rattle.std.proofs.Common.{◌∙◌, ◌++◌, ap, sym, drop, length}
use Rattle.std.proofs.lemmas.Slice.Eq.{starts_is}
use Rattle.std.proofs.lemmas.Bool.Decides.{Decides-eqb}
use Rattle.tg_files.proofs.temp_names.begins_with.Goals as goal

pub returns : goal.returns
returns c =
    let is = starts_is Decides-eqb c.as_bytes.result.now c.as_bytes-2.result.now c.starts_with.result c.starts_with.ensures.value in
    let name = c.as_bytes.ensures.value in
    let front = c.as_bytes-2.ensures.value in
    ((λ t. (drop (length c.as_bytes-2.result.now) c.as_bytes.result.now, sym name ∙ is.0 t ∙ ap (λ l. l ++ drop (length c.as_bytes-2.result.now) c.as_bytes.result.now) front)), λ begins. is.1 begins.0 (name ∙ begins.1 ∙ ap (λ l. l ++ begins.0) (sym front)))
