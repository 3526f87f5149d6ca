use Rattle.std.proofs.Common.{List, None, Option, [], ap, ap₂, false, not, refl, sym, true, ◌++◌, ◌∙◌, ◌∷◌}
use Rattle.indexmap.proofs.CallerLemmas.{insert_entry-new}
use Rattle.std.specs.Map.{keys_of}
use Rattle.tg_cid.specs.Cid.{CidParts}
use Rattle.tg_walk.proofs.Blocks.{is_there, none_there}
use Rattle.tg_walk.specs.Known.{KnownState, is_known}
use Rattle.tg_walk.specs.declared.known.Opened.{Opened}
use Rattle.tg_walk.specs.declared.known.Walked.{Walked}
use Rattle.tg_walk.proofs.known.Known.add.Goals as goal

pub returns-then-is_some : goal.returns-then-is_some
returns-then-is_some c = (
  ap not (sym (sym (ap (λ (k : KnownState). is_known c.args.cid (keys_of k.entries)) c.self.view_is)
      ∙ is_there _ c.equality.ensures c.args.cid c.self.inside.blocks.entries c.get.result true c.get.ensures.value (sym c.if-is_some.true ∙ c.is_some.ensures))),
  refl,
)

pub returns : goal.returns
returns c = (
  ap not (sym (sym (ap (λ (k : KnownState). is_known c.args.cid (keys_of k.entries)) c.self.view_is)
      ∙ is_there _ c.equality.ensures c.args.cid c.self.inside.blocks.entries c.get.result false c.get.ensures.value (sym c.if-is_some.false ∙ c.is_some.ensures))),
  ap₂ (λ (entries : List (CidParts × Option Walked)) (nodes : List Opened). let k : KnownState = record { entries = entries; nodes = nodes } in k)
      (c.in_ok-insert.ensures.entries
      ∙ insert_entry-new _ c.self.inside.blocks c.args.cid None (none_there c.get.result _ c.get.ensures.value (sym c.if-is_some.false ∙ c.is_some.ensures))
      ∙ ap (λ (k : KnownState). k.entries ++ (c.args.cid, None) ∷ []) c.self.view_is)
      (ap (λ (k : KnownState). k.nodes) c.self.view_is),
)
