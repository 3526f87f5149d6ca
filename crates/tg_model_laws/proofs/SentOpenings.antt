-- What is sent determines what is opened.
use Rattle.std.proofs.Common.{◌≡◌, ◌++◌, ◌∷◌, ℕ, Bool, true, false, Contains, List, [], append_assoc, append-nil, inl, inr, length, refl, sym, ap, ◌∙◌, subst, arith, length-append}
use Rattle.std.proofs.lemmas.List.{append_cancel_left}
use Rattle.std.proofs.lemmas.List.Elements.{Contains-append_left, Contains-append_right}
use Rattle.tg_cid.specs.Cid.{CidParts}
use Rattle.tg_cid.specs.Names.{Names}
use Rattle.tg_cid.specs.declared.cid.HashKind.TheVariants.{Identity}
use Rattle.tg_model_laws.proofs.CutOpenings.{IsCut, cut_before}
use Rattle.tg_model_laws.proofs.SameOpenings.{OneKind, one_opened}
use Rattle.tg_model_laws.specs.NamedBlocks.{checked_named, identity_block}
use Rattle.tg_model_laws.specs.Openings.{IsAtPlace, IsSettled, IsSettledAt}
use Rattle.tg_model_laws.specs.SentSections.{known_behind, not_among, once, sent_behind, sent_more, unasked_identity}
use Rattle.tg_model.specs.Dag.{Dag, Section}
use Rattle.tg_model.specs.Fits.{Fits, HasOneBlockEach, IfOnce, IsInProgress, IsOpenedFor, whole_text}
use Rattle.tg_model.specs.PathWalk.{Spot}
use Rattle.tg_model.specs.Queries.{QueryParts}
use Rattle.tg_model.specs.Sound.{top}
use Rattle.tg_model.specs.Traversal.{block_list, is_sent_behind, opened_list, sent, traversal}

-- the first of a list is one of it
first_of : (x : Section) (xs : List Section) (before : List Section) → Contains (before ++ x ∷ xs) x
first_of x xs before = Contains-append_right before (x ∷ xs) x (0, omega arith, refl)

-- each block of what was opened is one that its CID names
opened_named : (q : QueryParts) (d : Dag) → IsOpenedFor d q → (x : Section) → Contains (opened_list q d) x → Names x.cid x.block
opened_named q d h x held = checked_named top d h.checked x (subst (λ (l : List Section). Contains l x) (sym h.opened) held)

module _ (law : OneKind) (q : QueryParts) (a b : Dag) (h : IsOpenedFor a q) (g : IsOpenedFor b q) (list : block_list q a ≡ block_list q b) where
  -- two DAGs that were opened alike up to their next sections: these are equal
  next_cid : (front xs ys : List Section) (x y : Section) → opened_list q a ≡ front ++ x ∷ xs → opened_list q b ≡ front ++ y ∷ ys → IsAtPlace (traversal q a).end → IsAtPlace (traversal q b).end
      → x.cid ≡ y.cid
  next_cid front xs ys x y e f at at_b =
      let mine : IsCut q a front x = cut_before q a front xs x h e at in
      let other : IsCut q b front y = cut_before q b front ys y g f at_b in
      let (same, ends) = one_opened law q mine.partial other.partial mine.right other.right (mine.list ∙ sym other.list) (subst IsAtPlace (sym mine.end) tt) (subst IsAtPlace (sym other.end) tt) in
      let spots : mine.spot ≡ other.spot = cc (ends, mine.end, other.end) in
      sym mine.wanted ∙ ap (λ (s : Spot). s.cid) spots ∙ other.wanted

  same_next : (front xs ys : List Section) (x y : Section) → opened_list q a ≡ front ++ x ∷ xs → opened_list q b ≡ front ++ y ∷ ys → x.cid ≡ y.cid → (sends : Bool)
      → is_sent_behind q front x.cid ≡ sends → x ≡ y
  same_next front xs ys x y e f cids true new =
      let mine = sent_more q front xs x new in
      let other = sent_more q front ys y (ap (is_sent_behind q front) (sym cids) ∙ new) in
      let lists : sent q front ++ x ∷ mine.0 ≡ sent q front ++ y ∷ other.0 = sym mine.1 ∙ ap (sent q) (sym e) ∙ list ∙ ap (sent q) f ∙ other.1 in
      let rest : x ∷ mine.0 ≡ y ∷ other.0 = append_cancel_left (sent q front) (x ∷ mine.0) (y ∷ other.0) lists in
      cc
  same_next front xs ys x y e f cids false known =
      let block : x.block ≡ y.block = elim (known_behind q front x.cid known) [
        | inl unasked ↦
            let mine : Names x.cid x.block = opened_named q a h x (subst (λ (l : List Section). Contains l x) (sym e) (first_of x xs front)) in
            let other : Names y.cid y.block = opened_named q b g y (subst (λ (l : List Section). Contains l y) (sym f) (first_of y ys front)) in
            let kind : x.cid.hash ≡ Identity = unasked_identity q x.cid unasked in
            identity_block x.cid x.block kind mine ∙ sym (identity_block x.cid y.block kind (subst (λ (cid : CidParts). Names cid y.block) (sym cids) other))
        | inr (each_once, (z, held, is)) ↦
            let mine : HasOneBlockEach (front ++ x ∷ xs) = once q.dups _ each_once (subst (λ (l : List Section). IfOnce q.dups (HasOneBlockEach l)) (h.opened ∙ e) h.one_each) in
            let other : HasOneBlockEach (front ++ y ∷ ys) = once q.dups _ each_once (subst (λ (l : List Section). IfOnce q.dups (HasOneBlockEach l)) (g.opened ∙ f) g.one_each) in
            let in_mine : x.block ≡ z.block = mine x z (first_of x xs front) (Contains-append_left front (x ∷ xs) z held) (sym is) in
            let in_other : y.block ≡ z.block = other y z (first_of y ys front) (Contains-append_left front (y ∷ ys) z held) (sym cids ∙ sym is) in
            in_mine ∙ sym in_other
      ] in
      λ i. record { cid = cids i; block = block i }

-- one that was opened as far as another, but no further, isn't settled there
not_less : OneKind → (q : QueryParts) (a b : Dag) (front ys : List Section) (y : Section) → IsOpenedFor a q → IsOpenedFor b q → block_list q a ≡ block_list q b
    → opened_list q a ≡ front → opened_list q b ≡ front ++ y ∷ ys → IsAtPlace (traversal q a).end → IsAtPlace (traversal q b).end
    → IsSettledAt q (block_list q a) (traversal q a).end → ⊥
not_less law q a b front ys y h g list e f at at_b settled =
    let cut : IsCut q b front y = cut_before q b front ys y g f at_b in
    let (same, ends) = one_opened law q a cut.partial h cut.right (e ∙ sym cut.list) at (subst IsAtPlace (sym cut.end) tt) in
    let wanted : is_sent_behind q (block_list q a) cut.spot.cid ≡ true = subst (IsSettledAt q (block_list q a)) (ends ∙ cut.end) settled in
    let new : is_sent_behind q front y.cid ≡ true =
    sym (sent_behind q front y.cid) ∙ ap (λ (l : List Section). is_sent_behind q (sent q l) y.cid) (sym e) ∙ ap (is_sent_behind q (block_list q a)) (sym cut.wanted) ∙ wanted in
    let other = sent_more q front ys y new in
    let lists : sent q front ≡ sent q front ++ y ∷ other.0 = ap (sent q) (sym e) ∙ list ∙ ap (sent q) f ∙ other.1 in
    omega (arith, ap length lists, length-append (sent q front) (y ∷ other.0))

same_lists : OneKind → (q : QueryParts) (a b : Dag) → IsOpenedFor a q → IsOpenedFor b q → block_list q a ≡ block_list q b
    → IsAtPlace (traversal q a).end → IsAtPlace (traversal q b).end → IsSettledAt q (block_list q a) (traversal q a).end → IsSettledAt q (block_list q b) (traversal q b).end
    → (front u v : List Section) → opened_list q a ≡ front ++ u → opened_list q b ≡ front ++ v → u ≡ v
same_lists law q a b h g list at at_b s t front [] [] e f = refl
same_lists law q a b h g list at at_b s t front [] (y ∷ v) e f =
    absurd (not_less law q a b front v y h g list (e ∙ append-nil front) f at at_b s)
same_lists law q a b h g list at at_b s t front (x ∷ u) [] e f =
    absurd (not_less law q b a front u x g h (sym list) (f ∙ append-nil front) e at_b at t)
same_lists law q a b h g list at at_b s t front (x ∷ u) (y ∷ v) e f =
    let cids : x.cid ≡ y.cid = next_cid law q a b h g list front u v x y e f at at_b in
    let same : x ≡ y = same_next law q a b h g list front u v x y e f cids (is_sent_behind q front x.cid) refl in
    let other : opened_list q b ≡ front ++ x ∷ v = f ∙ ap (λ (z : Section). front ++ z ∷ v) (sym same) in
    let rest : u ≡ v =
    same_lists law q a b h g list at at_b s t (front ++ x ∷ []) u v (e ∙ sym (append_assoc front (x ∷ []) u)) (other ∙ sym (append_assoc front (x ∷ []) v)) in
    cc

-- what is sent determines what is opened, where both traversals came through or stopped at a block that is sent
pub sent_opened : OneKind → (q : QueryParts) (a b : Dag) → IsOpenedFor a q → IsOpenedFor b q → block_list q a ≡ block_list q b → IsSettled a q → IsSettled b q → opened_list q a ≡ opened_list q b
sent_opened law q a b h g list s t = same_lists law q a b h g list s.0 t.0 s.1 t.1 [] (opened_list q a) (opened_list q b) refl refl

-- sections that fit, or are in progress, are settled
fit_settled : (q : QueryParts) (sections : List Section) (d : Dag) (out : List ℕ) → Fits d q sections out → IsSettled d q
fit_settled q sections d out h = (subst IsAtPlace (sym h.end) tt, subst (IsSettledAt q (block_list q d)) (sym h.end) tt)

progress_settled : (q : QueryParts) (sections : List Section) (d : Dag) (wanted : Spot) → IsInProgress d q sections wanted → IsSettled d q
progress_settled q sections d wanted h = (
  subst IsAtPlace (sym h.end) tt,
  subst (IsSettledAt q (block_list q d)) (sym h.end)
      (ap (λ (l : List Section). is_sent_behind q l wanted.cid) h.list ∙ not_among q sections wanted.cid h.asked h.not_seen),
)

-- what the sections of a query have opened is determined
same_opened : OneKind → (q : QueryParts) (sections : List Section) (a b : Dag) → IsOpenedFor a q → IsOpenedFor b q → block_list q a ≡ sections → block_list q b ≡ sections → IsSettled a q → IsSettled b q
    → IsAtPlace (traversal q a).end → IsAtPlace (traversal q b).end → (a ≡ b) × ((traversal q a).end ≡ (traversal q b).end)
same_opened law q sections a b h g list list_b settled settled_b at at_b =
    one_opened law q a b h g (sent_opened law q a b h g (list ∙ sym list_b) settled settled_b) at at_b

-- sections fit a query in one way at most
pub one_fit : OneKind → (q : QueryParts) (sections : List Section) (a b : Dag) (x y : List ℕ) → Fits a q sections x → Fits b q sections y → (a ≡ b) × (x ≡ y)
one_fit law q sections a b x y h g =
    let (same, ends) = same_opened law q sections a b h.right g.right h.list g.list (fit_settled q sections a x h) (fit_settled q sections b y g) (subst IsAtPlace (sym h.end) tt) (subst IsAtPlace (sym g.end) tt) in
    (same, h.text ∙ ap (λ (d : Dag). whole_text q d) same ∙ sym g.text)

-- and stay in progress in one way at most
pub one_in_progress : OneKind → (q : QueryParts) (sections : List Section) (a b : Dag) (v w : Spot) → IsInProgress a q sections v → IsInProgress b q sections w
    → (a ≡ b) × (v ≡ w)
one_in_progress law q sections a b v w h g =
    let (same, ends) = same_opened law q sections a b h.right g.right h.list g.list (progress_settled q sections a v h) (progress_settled q sections b w g) (subst IsAtPlace (sym h.end) tt) (subst IsAtPlace (sym g.end) tt) in
    (same, cc (ends, h.end, g.end))

-- sections that fit a query don't stay in progress
pub fit_or_in_progress : OneKind → (q : QueryParts) (sections : List Section) (a b : Dag) (x : List ℕ) (w : Spot) → Fits a q sections x → IsInProgress b q sections w → ⊥
fit_or_in_progress law q sections a b x w h g =
    let (same, ends) = same_opened law q sections a b h.right g.right h.list g.list (fit_settled q sections a x h) (progress_settled q sections b w g) (subst IsAtPlace (sym h.end) tt) (subst IsAtPlace (sym g.end) tt) in
    cc (ends, h.end, g.end)
