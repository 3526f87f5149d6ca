use Rattle.std.proofs.Common.{◌∙◌, string_cmp}
use Rattle.std.specs.BTreeMap.{IsFromIterResult}
use Rattle.std.proofs.lemmas.Iterator.Adapters.{YieldsList-from_vec}
use Rattle.tg_files.proofs.Entries.{made_of_all}
use Rattle.tg_files.proofs.host_folder.level_of.Goals as goal

pub returns : goal.returns
returns c =
    made_of_all (IsFromIterResult string_cmp) c.from_iter.result c.from_iter.ensures.ran (λ it b. YieldsList-from_vec {s = it} _ b.0 (b.1 ∙ c.args.found.ok.0))
