use Rattle.std.proofs.Common.{◌∙◌}
use Rattle.indexmap.proofs.CallerLemmas.{insert_entry-new}
use Rattle.tg_store.specs.Keys.{same_key}
use Rattle.tg_store.proofs.MemKeeping.{at_ok}
use Rattle.tg_store.proofs.writing.add_place.Goals as goal

pub returns : goal.returns
returns c =
    at_ok c.insert.result (c.insert.ensures.succeeds c.requires.room) c.insert.ensures.entries
    ∙ insert_entry-new same_key c.args.places.now c.args.key c.args.place c.requires.new
