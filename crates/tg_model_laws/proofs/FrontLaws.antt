-- Each front of the sections that a query asks for is in progress.
use Rattle.std.proofs.Common.{◌≡◌, ◌⊎◌, ◌+◌, ◌++◌, ◌∷◌, ℕ, Bool, true, false, List, [], inl, inr, length, refl, sym, ap, ◌∙◌, subst}
use Rattle.tg_model_laws.proofs.AgainstPeers.{early_end}
use Rattle.tg_model_laws.proofs.CutOpenings.{IsCut, cut_before}
use Rattle.tg_model_laws.proofs.Followed.{EndFollows, at_end, at_node, gives_front, path_follows, traversal_follows}
use Rattle.tg_model_laws.specs.ListFronts.{FrontOf}
use Rattle.tg_model_laws.specs.Fronts.{IsFrontOf}
use Rattle.tg_model_laws.specs.Openings.{IsAtPlace}
use Rattle.tg_model_laws.specs.PartialDags.{OpenedFrom}
use Rattle.tg_model_laws.specs.SentSections.{SplitAt, asked_behind, new_behind, sent_split}
use Rattle.tg_model.specs.Answer.{is_listed}
use Rattle.tg_model.specs.Dag.{Dag, Section}
use Rattle.tg_model.specs.Fits.{Fits, IsInProgress, IsOpenedFor, is_late_terminal, output_so_far, so_far, whole_text}
use Rattle.tg_model.specs.PathWalk.{PathEnd, Spot, TraversalEnd, gone, path_walk, stopped, terminal, whole}
use Rattle.tg_model.specs.Queries.{QueryParts}
use Rattle.tg_model.specs.Traversal.{block_list, from_end, is_sent_behind, opened_list, sent, traversal}
use Rattle.tg_model.specs.declared.queries.Scope.{Scope}
use Rattle.tg_model.specs.declared.queries.Scope.TheVariants as scopes

-- ---- what is written

-- a late text isn't written while a block is wanted
late_nothing : (late : Bool) (spot : Spot) (end : TraversalEnd) (all text : List ℕ) → end ≡ stopped (gone spot) → late ≡ true → so_far late end all text ≡ []
late_nothing true spot whole all text e l = absurd (cc e)
late_nothing true spot (stopped stop) all text e l = refl
late_nothing false spot end all text e l = absurd (cc l)

early_text : (late : Bool) (end : TraversalEnd) (all text : List ℕ) → late ≡ false → so_far late end all text ≡ text
early_text true end all text l = absurd (cc l)
early_text false end all text l = refl

-- where the terminal of the longer one isn't listed, and the shorter's text isn't late, neither is the longer's
late_too : (scope : Scope) (end : PathEnd) (u : Dag) (other : PathEnd) → EndFollows end other → is_late_terminal scope end ≡ false → other ≡ terminal u → is_listed scope u ≡ false
    → is_late_terminal scope other ≡ false
late_too scopes.Block _ u _ (at_node t d h) late e l = absurd (cc late)
late_too scopes.Block _ u _ (at_end stop) late e l = refl
late_too scopes.Entity _ u _ (at_node t d h) late e l = let same : d ≡ u = cc in ap (is_listed scopes.Entity) same ∙ l
late_too scopes.Entity _ u _ (at_end stop) late e l = refl
late_too scopes.All _ u _ (at_node t d h) late e l = refl
late_too scopes.All _ u _ (at_end stop) late e l = refl

-- a text of which there is none yet, or that is a front of the other's
text_is_front : (q : QueryParts) (s d : Dag) → OpenedFrom s d → is_late_terminal q.scope (path_walk q.path s).end ≡ false
    → ((traversal q s).text ≡ []) ⊎ (is_late_terminal q.scope (path_walk q.path d).end ≡ false)
text_is_front q s d from late =
    let depth : ℕ = length (path_walk q.path s).sections + 1 in
    elim (path_follows q.path s d from) [
      | inl way ↦ elim (early_end q.scope q.span depth (path_walk q.path s).end (path_walk q.path d).end way.end late) [
        | inl nothing ↦ inl nothing
        | inr early ↦ inr (late_too q.scope (path_walk q.path s).end early.0 (path_walk q.path d).end way.end late early.1 early.2)
      ]
      | inr lost ↦ inl (ap (λ (end : PathEnd). (from_end end q.scope q.span depth).text) lost.end)
    ]

-- nothing is a front of each text
from_nothing : (all out : List ℕ) → out ≡ [] → (tail : List ℕ) × (all ≡ out ++ tail)
from_nothing all out e = (all, ap (λ (x : List ℕ). x ++ all) (sym e))

-- by whether the text is late
written_by : (q : QueryParts) (s d : Dag) (spot : Spot) (late : Bool) → OpenedFrom s d → (traversal q s).end ≡ stopped (gone spot) → is_late_terminal q.scope (path_walk q.path s).end ≡ late
    → (tail : List ℕ) × (output_so_far q d ≡ output_so_far q s ++ tail)
written_by q s d spot true from e l =
    from_nothing (output_so_far q d) (output_so_far q s) (late_nothing (is_late_terminal q.scope (path_walk q.path s).end) spot (traversal q s).end (whole_text q s) (traversal q s).text e l)
written_by q s d spot false from e l =
    let mine : output_so_far q s ≡ (traversal q s).text = early_text (is_late_terminal q.scope (path_walk q.path s).end) (traversal q s).end (whole_text q s) (traversal q s).text l in
    elim (text_is_front q s d from l) [
      | inl nothing ↦ from_nothing (output_so_far q d) (output_so_far q s) (mine ∙ nothing)
      | inr early ↦
          let other : output_so_far q d ≡ (traversal q d).text = early_text (is_late_terminal q.scope (path_walk q.path d).end) (traversal q d).end (whole_text q d) (traversal q d).text early in
          let longer : FrontOf (traversal q s).text (traversal q d).text = (gives_front (traversal q s) (traversal q d) (traversal_follows q s d from)).text in
          (longer.rest, other ∙ longer.is ∙ ap (λ (x : List ℕ). x ++ longer.rest) (sym mine))
    ]

-- ---- fronts

-- what is opened before the section that is sent behind the front is in progress
is_front : (q : QueryParts) (d : Dag) (front rest : List Section) (next : Section) → IsOpenedFor d q → block_list q d ≡ front ++ next ∷ rest → IsAtPlace (traversal q d).end → IsFrontOf q d front next
is_front q d front rest next right list at =
    let parts : SplitAt q (opened_list q d) front next = sent_split q (opened_list q d) front rest next list in
    let cut : IsCut q d parts.before next = cut_before q d parts.before parts.behind next right parts.whole at in
    let wanted_sent : is_sent_behind q front cut.spot.cid ≡ true = ap (is_sent_behind q front) cut.wanted ∙ parts.next_sent in
    let (tail, output) = written_by q cut.partial d cut.spot (is_late_terminal q.scope (path_walk q.path cut.partial).end) cut.from cut.end refl in
    record {
      partial = cut.partial;
      spot = cut.spot;
      progress = record {
        right = cut.right;
        list = ap (sent q) cut.list ∙ parts.front_is;
        end = cut.end;
        asked = asked_behind q front cut.spot.cid wanted_sent;
        not_seen = new_behind q front cut.spot.cid wanted_sent;
      };
      wanted = cut.wanted;
      from = cut.from;
      behind = parts.behind;
      opened = parts.whole ∙ ap (λ (some : List Section). some ++ next ∷ parts.behind) (sym cut.list);
      tail = tail;
      output = output;
    }

pub fits_by_fronts : (q : QueryParts) (d : Dag) (front rest : List Section) (next : Section) (out : List ℕ) → Fits d q (front ++ next ∷ rest) out → IsFrontOf q d front next
fits_by_fronts q d front rest next out h = is_front q d front rest next h.right h.list (subst IsAtPlace (sym h.end) tt)

pub progress_by_fronts : (q : QueryParts) (d : Dag) (front rest : List Section) (next : Section) (wanted : Spot) → IsInProgress d q (front ++ next ∷ rest) wanted
    → IsFrontOf q d front next
progress_by_fronts q d front rest next wanted h = is_front q d front rest next h.right h.list (subst IsAtPlace (sym h.end) tt)
