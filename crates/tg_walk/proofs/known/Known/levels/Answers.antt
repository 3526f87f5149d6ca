use Rattle.std.proofs.Common.{Some, ap, subst, sym, ◌∙◌}
use Rattle.std.specs.Option.{option_copied}
use Rattle.tg_walk.proofs.Blocks.{found_entry}
use Rattle.tg_walk.specs.Known.{HasLevels, KnownState}
use Rattle.tg_walk.specs.declared.known.Walked.{Walked}
use Rattle.tg_walk.proofs.known.Known.levels.Goals as goal

pub returns-in-Some-Some : goal.returns-in-Some-Some
returns-in-Some-Some c =
    let w : Walked = c.in-Some-Some.walked in
    subst (λ (k : KnownState). HasLevels k.entries c.args.cid.now c.args.role w.levels) c.self.view_is (record {
      known_in = w.role;
      there = found_entry _ c.equality.ensures c.args.cid.now (Some w) c.self.inside.blocks.entries (sym c.get.ensures.value ∙ ap option_copied c.in-Some-Some.is ∙ ap Some c.in-Some-Some.field-0-is);
      holds = c.holds_in.ensures c.if-holds_in.true;
    })
