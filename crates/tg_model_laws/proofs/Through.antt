-- Of a traversal that comes through, each step comes through, and its places and its text are theirs in order.
use Rattle.std.proofs.Common.{◌≡◌, ℕ, ◌+◌, Option, Some, None, List, [], ◌∷◌, ◌++◌, refl, sym, ap, ◌∙◌}
use Rattle.std.proofs.lemmas.List.{append-nil}
use Rattle.tg_model.specs.Dag.{Dag, Children, Section, with_child, no_child, node}
use Rattle.tg_model.specs.PathWalk.{Spot, TraversalEnd, spot_at, stopped, whole}
use Rattle.tg_model.specs.Sound.{Position, position_fault}
use Rattle.tg_model.specs.Traversal.{ListedEntry, Place, Reach, Traversal, Visit, after_end, and_then, giving_entries, giving_place, giving_text, text_before, text_behind, traverse, traverse_children, unless_bad, visited, visits}
use Rattle.tg_model.specs.declared.fault.BlockFault.{BlockFault}
use Rattle.tg_model.specs.declared.kinds.Kind.{Kind}

-- both of two traversals come through, and their places, their texts and what is met follow each other
pub record BothThrough (a b : Traversal) (both : Traversal) : Type 0 where
  pub first : a.end ≡ whole
  pub second : b.end ≡ whole
  pub places : both.places ≡ a.places ++ b.places
  pub text : both.text ≡ a.text ++ b.text
  pub met : both.met ≡ a.met ++ b.met

-- where one traversal and another behind it come through together, each does
both-from : (end : TraversalEnd) (a b : Traversal) → end ≡ a.end → (after_end end a b).end ≡ whole → BothThrough a b (after_end end a b)
both-from whole a b e w = record { first = sym e; second = w; places = refl; text = refl; met = refl }
both-from (stopped stop) a b e w = absurd (cc)

-- the same of `and_then`
pub both-through : (a b : Traversal) → (and_then a b).end ≡ whole → BothThrough a b (and_then a b)
both-through a b w = both-from a.end a b refl w

-- a traversal that comes through isn't refused
pub not-refused : (spot : Spot) (fault : Option BlockFault) (t : Traversal) → (unless_bad spot fault t).end ≡ whole → unless_bad spot fault t ≡ t
not-refused spot None t w = refl
not-refused spot (Some fault) t w = absurd (cc w)

-- the children of a node come through, its places are its own and theirs, its text is its own, theirs and what follows, and it meets
-- what is met at them
pub record NodeThrough (reach : Reach) (position : Position) (depth : ℕ) (section : Section) (kind : Kind) (children : Children) : Type 0 where
  pub children_end : (traverse_children (visits reach position kind) (depth + 1) children).end ≡ whole
  pub places : (traverse reach position depth (node section kind children)).places
      ≡ record { section = section; depth = depth } ∷ (traverse_children (visits reach position kind) (depth + 1) children).places
  pub text : (traverse reach position depth (node section kind children)).text
      ≡ text_before reach position section kind ++ ((traverse_children (visits reach position kind) (depth + 1) children).text ++ text_behind reach kind)
  pub met : (traverse reach position depth (node section kind children)).met ≡ (traverse_children (visits reach position kind) (depth + 1) children).met

-- so it is where the node comes through
pub node-through : (reach : Reach) (position : Position) (depth : ℕ) (section : Section) (kind : Kind) (children : Children)
    → (traverse reach position depth (node section kind children)).end ≡ whole → NodeThrough reach position depth section kind children
node-through reach position depth section kind children w =
    let own : Traversal = giving_place (record { section = section; depth = depth }) (text_before reach position section kind) in
    let below : Traversal = traverse_children (visits reach position kind) (depth + 1) children in
    let rest : Traversal = and_then below (giving_text (text_behind reach kind)) in
    let same : traverse reach position depth (node section kind children) ≡ and_then own rest = not-refused (spot_at section.cid depth position) (position_fault position kind) (and_then own rest) w in
    let all : BothThrough own rest (and_then own rest) = both-through own rest (sym (ap (λ (t : Traversal). t.end) same) ∙ w) in
    let children_too : BothThrough below (giving_text (text_behind reach kind)) rest = both-through below (giving_text (text_behind reach kind)) all.second in
    record {
      children_end = children_too.first;
      places = ap (λ (t : Traversal). t.places) same ∙ all.places ∙ ap (λ (places : List Place). own.places ++ places) (children_too.places ∙ append-nil below.places);
      text = ap (λ (t : Traversal). t.text) same ∙ all.text ∙ ap (λ (text : List ℕ). text_before reach position section kind ++ text) children_too.text;
      met = ap (λ (t : Traversal). t.met) same ∙ all.met ∙ children_too.met ∙ append-nil below.met;
    }

-- at a first link and behind it the traversal comes through, and places, texts and what is met follow each other
pub record ChildThrough (visit : Visit) (todo : List Visit) (depth : ℕ) (d : Dag) (children : Children) : Type 0 where
  pub first : (visited (λ reach position. traverse reach position depth d) visit.into).end ≡ whole
  pub rest : (traverse_children todo depth children).end ≡ whole
  pub places : (traverse_children (visit ∷ todo) depth (with_child d children)).places ≡ (visited (λ reach position. traverse reach position depth d) visit.into).places ++ (traverse_children todo depth children).places
  pub text : (traverse_children (visit ∷ todo) depth (with_child d children)).text ≡ (visited (λ reach position. traverse reach position depth d) visit.into).text ++ (traverse_children todo depth children).text
  pub met : (traverse_children (visit ∷ todo) depth (with_child d children)).met ≡ visit.met ++ ((visited (λ reach position. traverse reach position depth d) visit.into).met ++ (traverse_children todo depth children).met)

-- so it is where the children from a first on come through
pub child-through : (visit : Visit) (todo : List Visit) (depth : ℕ) (d : Dag) (children : Children) → (traverse_children (visit ∷ todo) depth (with_child d children)).end ≡ whole → ChildThrough visit todo depth d children
child-through visit todo depth d children w =
    let here : Traversal = visited (λ reach position. traverse reach position depth d) visit.into in
    let rest : Traversal = traverse_children todo depth children in
    let all : BothThrough (giving_entries visit.met) (and_then here rest) (traverse_children (visit ∷ todo) depth (with_child d children)) = both-through (giving_entries visit.met) (and_then here rest) w in
    let both : BothThrough here rest (and_then here rest) = both-through here rest all.second in
    record {
      first = both.first;
      rest = both.second;
      places = all.places ∙ both.places;
      text = all.text ∙ both.text;
      met = all.met ∙ ap (λ (met : List ListedEntry). visit.met ++ met) both.met;
    }

-- where nothing is done at the children there is no text
pub no-visits : (depth : ℕ) (children : Children) → (traverse_children [] depth children).text ≡ []
no-visits depth no_child = refl
no-visits depth (with_child d children) = refl
