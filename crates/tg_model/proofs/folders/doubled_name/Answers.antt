use Rattle.std.proofs.Common.{List, [], ◌∷◌, ◌++◌, map, ap, sym, ◌∙◌, arith}
use Rattle.std.specs.BTreeSet.{contains}
use Rattle.std.proofs.lemmas.Bool.{not-true, not-false}
use Rattle.tg_dagpb.specs.Cursor.{link_of}
use Rattle.tg_dagpb.specs.declared.Link.{Link}
use Rattle.tg_model.proofs.NameLemmas.{by_bytes, seen_here, seen_more}
use Rattle.tg_model.specs.Computed.{doubled_from}
use Rattle.tg_model.specs.PlacedSteps.{block_links}
use Rattle.tg_model.specs.Reading.{name_of}
use Rattle.tg_model.proofs.folders.doubled_name.Goals as goal

pub returns-then-not-branch : goal.returns-then-not-branch
returns-then-not-branch c =
    let left = c.loop-link.invariant.left in
    let next = c.in-Some.ensures.next left.ahead.behind left.links left.ahead.between in
    let found = not-false (contains by_bytes c.loop-link.seen c.name_of.result) (sym c.in_ok-insert.ensures.added ∙ c.if-not-branch.true) in
    sym (seen_here (block_links c.args.block.now) left.links next.0 c.loop-link.index c.loop-link.seen (link_of c.in-Some.link) c.name_of.result left.so_far next.1 c.name_of.ensures found)

pub loop-link-preserved : goal.loop-link-preserved
loop-link-preserved c =
    let left = c.loop-link.invariant.left in
    let next = c.in-Some.ensures.next left.ahead.behind left.links left.ahead.between in
    let missing = not-true (contains by_bytes c.loop-link.seen c.name_of.result) (sym c.in_ok-insert.ensures.added ∙ c.if-not-branch.false) in
    record {
      left = record {
        links = next.0;
        ahead = record { behind = left.ahead.behind ++ link_of c.in-Some.link ∷ []; between = next.2 };
        so_far = seen_more (block_links c.args.block.now) left.links next.0 c.loop-link.index c.loop-link.seen c.insert.new.self (link_of c.in-Some.link) c.name_of.result left.so_far next.1 c.name_of.ensures missing c.in_ok-insert.ensures.updates.0;
      };
      count = omega (arith, c.in-Some.ensures.forward.0);
    }

pub returns : goal.returns
returns c =
    let left = c.loop-link.invariant.left in
    let none = c.in_default.ensures.next left.ahead.behind left.links left.ahead.between in
    sym (left.so_far.goes_on ∙ ap (λ (links : List Link). doubled_from c.loop-link.index left.so_far.before (map name_of links)) none)
