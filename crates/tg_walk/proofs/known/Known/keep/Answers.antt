use Rattle.std.proofs.Common.{All, ap, subst, sym, ◌∙◌}
use Rattle.indexmap.proofs.CallerLemmas.{keys-insert_entry-present}
use Rattle.std.specs.Map.{keys_of}
use Rattle.tg_walk.proofs.Blocks.{kept_all, kept_put, some_there}
use Rattle.tg_walk.specs.Known.{IsKeptOf, KnownState}
use Rattle.tg_walk.proofs.known.Known.keep.Goals as goal

pub returns-in_default-clause-kept : goal.returns-in_default-clause-kept
returns-in_default-clause-kept c = kept_all c.args.node.now c.args.self.now.entries

pub returns-in_ok-insert-clause-keys : goal.returns-in_ok-insert-clause-keys
returns-in_ok-insert-clause-keys c =
    ap keys_of c.in_ok-insert.ensures.entries
    ∙ keys-insert_entry-present _ c.self.inside.blocks c.args.node.now.cid _ (some_there c.get.result _ c.get.ensures.value (sym c.if-is_some.true ∙ c.is_some.ensures))
    ∙ ap (λ (k : KnownState). keys_of k.entries) c.self.view_is

pub returns-in_ok-insert-clause-kept : goal.returns-in_ok-insert-clause-kept
returns-in_ok-insert-clause-kept c =
    subst (λ (k : KnownState). All (IsKeptOf k.entries c.args.node.now) c.insert.new.self.entries) c.self.view_is
    (kept_put _ c.equality.ensures c.args.node.now c.in-Some.role c.saturating_sub-levels.result c.self.inside.blocks.entries c.insert.new.self.entries c.in-Some.is c.saturating_sub-levels.ensures c.in_ok-insert.ensures.entries)

pub returns-else-is_some-clause-kept : goal.returns-else-is_some-clause-kept
returns-else-is_some-clause-kept c = kept_all c.args.node.now c.args.self.now.entries
