use Rattle.std.proofs.Common.{◌≡◌, ℕ, Bool, true, false, List, [], ◌∷◌, ◌++◌, map, not, ap, sym, ◌∙◌, arith}
use Rattle.tg_dagpb.specs.Cursor.{link_of}
use Rattle.tg_dagpb.specs.declared.Link.{Link}
use Rattle.tg_model.proofs.NameLemmas.{first_here, first_past}
use Rattle.tg_model.specs.Computed.{first_from, is_good_name}
use Rattle.tg_model.specs.Reading.{name_of}
use Rattle.tg_model.proofs.folders.bad_name.Goals as goal

pub returns-then-not-is_good_name : goal.returns-then-not-is_good_name
returns-then-not-is_good_name c =
    let is_bad : List ℕ → Bool = λ name. not (is_good_name name) in
    let left = c.loop-link.invariant.left in
    let next = c.in-Some.ensures.next left.ahead.behind left.links left.ahead.between in
    let name = name_of (link_of c.in-Some.link) in
    let bad : is_bad name ≡ true = ap (λ (n : List ℕ). is_bad n) (sym c.name_of.ensures) ∙ ap not (sym c.is_good_name.ensures) ∙ ap not c.if-not-is_good_name.true in
    sym (left.so_far ∙ ap (λ (links : List Link). first_from is_bad c.loop-link.index (map name_of links)) next.1
    ∙ first_here is_bad c.loop-link.index name (map name_of next.0) bad)

pub loop-link-preserved : goal.loop-link-preserved
loop-link-preserved c =
    let is_bad : List ℕ → Bool = λ name. not (is_good_name name) in
    let left = c.loop-link.invariant.left in
    let next = c.in-Some.ensures.next left.ahead.behind left.links left.ahead.between in
    let name = name_of (link_of c.in-Some.link) in
    let good : is_bad name ≡ false = ap (λ (n : List ℕ). is_bad n) (sym c.name_of.ensures) ∙ ap not (sym c.is_good_name.ensures) ∙ ap not c.if-not-is_good_name.false in
    record {
      left = record {
        links = next.0;
        ahead = record { behind = left.ahead.behind ++ link_of c.in-Some.link ∷ []; between = next.2 };
        so_far = left.so_far ∙ ap (λ (links : List Link). first_from is_bad c.loop-link.index (map name_of links)) next.1
            ∙ first_past is_bad c.loop-link.index name (map name_of next.0) good;
      };
      count = omega (arith, c.in-Some.ensures.forward.0);
    }

pub returns : goal.returns
returns c =
    let is_bad : List ℕ → Bool = λ name. not (is_good_name name) in
    let left = c.loop-link.invariant.left in
    let none = c.in_default.ensures.next left.ahead.behind left.links left.ahead.between in
    sym (left.so_far ∙ ap (λ (links : List Link). first_from is_bad c.loop-link.index (map name_of links)) none)
