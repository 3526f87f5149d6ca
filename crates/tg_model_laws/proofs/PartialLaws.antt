-- What a checked partial DAG is, and what is written of one that was opened for a query.
use Rattle.std.proofs.Common.{◌≡◌, ◌⊎◌, ◌++◌, ◌∷◌, ℕ, Contains, Bool, true, false, Option, Some, List, [], append-nil, inl, inr, map, refl, sym, ap, ◌∙◌, subst, subst₂}
use Rattle.std.proofs.lemmas.Slice.Eq.{bytes_eq-Decides}
use Rattle.std.specs.Prelude.{bytes_eq, ◌||◌}
use Rattle.tg_cid.specs.Names.{Names}
use Rattle.tg_model_laws.proofs.AgainstPeers.{answer_or_pair, collision_pair, empty_front, front_written, has_answer, not_early, or_pair}
use Rattle.tg_model_laws.proofs.Followed.{EndFollows, Follows, at_end, at_node, path_follows, traversal_follows}
use Rattle.tg_model_laws.proofs.Listings.{traversal_met}
use Rattle.tg_model_laws.proofs.OpenedDags.{OneKind, compared, first_one, opened_checked, opened_or_collision, same_root}
use Rattle.tg_model_laws.proofs.OpenedReads.{meet_entries, say_texts}
use Rattle.tg_model_laws.proofs.OwnSections.{listed_text}
use Rattle.tg_model_laws.proofs.SentBlocks.{all_opened}
use Rattle.tg_model_laws.proofs.TerminalTexts.{traversal-text}
use Rattle.tg_model_laws.specs.PartialDags.{OpenedFrom, StopsBefore, alone, opened, same_bare, unseen}
use Rattle.tg_model.specs.Answer.{answer, is_listed, node_text}
use Rattle.tg_model.specs.Dag.{Dag, Section, bare, blocks, node, root_cid, unopened}
use Rattle.tg_model.specs.Fits.{CollisionPair, Fits, IsFrontOfAnswer, IsOpenedFor, is_block, is_late_terminal, output_so_far, so_far, terminal_text, whole_text}
use Rattle.tg_model.specs.PathWalk.{PathEnd, PathWalk, TraversalEnd, not_reached, path_walk, stopped, terminal, whole}
use Rattle.tg_model.specs.Queries.{QueryParts}
use Rattle.tg_model.specs.Sound.{IsChecked, IsSound, top}
use Rattle.tg_model.specs.Texts.{listing}
use Rattle.tg_model.specs.Traversal.{Traversal, block_list, named_met, sent, traversal}
use Rattle.tg_model.specs.declared.queries.Scope.{Scope}
use Rattle.tg_model.specs.declared.queries.Scope.TheVariants as scopes

-- ---- partial DAGs

-- a received block and one of a DAG
pub one_block : (d : Dag) (received held : Section) → Contains (blocks d) held → received.cid ≡ held.cid → Names received.cid received.block → Names held.cid held.block
    → (received ≡ held) ⊎ CollisionPair (received ∷ []) d
one_block d received held within e p n =
    elim (compared received held (bytes_eq received.block held.block) (bytes_eq-Decides received.block held.block) e p n) [
      | inl same ↦ inl same
      | inr clash ↦ inr (record {
        received = received;
        held = held;
        is_received = first_one received [];
        is_held = within;
        same_cid = clash.same_cid;
        kind = clash.kind;
        differ = clash.differ;
        same_hash = clash.same_hash;
      })
    ]

pub opened_or_pair : OneKind → (d s : Dag) → IsSound d → IsChecked s → root_cid s ≡ root_cid d → OpenedFrom s d ⊎ CollisionPair (blocks s) d
opened_or_pair one_kind d s sound checked root =
    elim (opened_or_collision one_kind top s d sound.whole checked sound.checked root) [
      | inl from ↦ inl from
      | inr c ↦ inr (collision_pair (blocks s) s d refl c)
    ]

pub opened_is_checked : (d s : Dag) → IsSound d → OpenedFrom s d → IsChecked s × (root_cid s ≡ root_cid d)
opened_is_checked d s sound from = (opened_checked top s d from sound.checked, same_root s d from)

-- what follows of traversals
followed_by : (t u : Traversal) → Follows t u → (t ≡ u) ⊎ StopsBefore t u
followed_by t u (inl same) = inl same
followed_by t u (inr h) = inr (record {
  spot = h.wanted;
  end = h.end;
  places_behind = h.gives.places.rest;
  places = h.gives.places.is;
  text_behind = h.gives.text.rest;
  text = h.gives.text.is;
  met_behind = h.gives.met.rest;
  met = h.gives.met.is;
})

pub followed : (q : QueryParts) (d s : Dag) → OpenedFrom s d → (traversal q s ≡ traversal q d) ⊎ StopsBefore (traversal q s) (traversal q d)
followed q d s from = followed_by (traversal q s) (traversal q d) (traversal_follows q s d from)

-- ---- what is written

-- where the text is late only at the end it is told, and else all of it so far
shown_front : (late : Bool) (end : TraversalEnd) (all text : List ℕ) (told : Option (List ℕ)) → (late ≡ false → IsFrontOfAnswer text told) → (late ≡ true → end ≡ whole → IsFrontOfAnswer all told)
    → IsFrontOfAnswer (so_far late end all text) told
shown_front true whole all text told h g = g refl refl
shown_front true (stopped stop) all text told h g = empty_front [] told refl
shown_front false end all text told h g = h refl

-- a late text is that of a terminal
late_terminal : (scope : Scope) (end : PathEnd) → is_late_terminal scope end ≡ true → (t : Dag) × (end ≡ terminal t) × ((is_block scope || is_listed scope t) ≡ true)
late_terminal scope (terminal t) late = (t, refl, late)
late_terminal scope (not_reached stop) late = absurd (cc late)

-- one that isn't a listing is a block
late_block : (scope : Scope) (t : Dag) → (is_block scope || is_listed scope t) ≡ true → is_listed scope t ≡ false → scope ≡ scopes.Block
late_block scopes.Block t late l = refl
late_block scopes.Entity t late l = absurd (cc (late, l))
late_block scopes.All t late l = absurd (cc late)

-- terminals of walks beside each other
ends_from : (end other : PathEnd) (t u : Dag) → EndFollows end other → end ≡ terminal t → other ≡ terminal u → OpenedFrom t u
ends_from _ _ t u (at_node s d h) e f = let same : s ≡ t = cc in let too : d ≡ u = cc in subst₂ (λ (s d : Dag). OpenedFrom s d) same too h
ends_from _ _ t u (at_end stop) e f = absurd (cc e)

-- what is listed of an opened directory is listed of the whole
listed_too : (scope : Scope) (t u : Dag) → OpenedFrom t u → is_listed scope t ≡ true → is_listed scope u ≡ true
listed_too scopes.Block t u from l = absurd (cc l)
listed_too scopes.Entity _ _ (unseen cid d e) l = absurd (cc l)
listed_too scopes.Entity _ _ (alone section kind children) l = absurd (cc l)
listed_too scopes.Entity _ _ (same_bare section fault) l = absurd (cc l)
listed_too scopes.Entity _ _ (opened section kind children others h) l = l
listed_too scopes.All t u from l = absurd (cc l)

-- where the block alone is asked for nothing is listed
block_unlisted : (scope : Scope) (t : Dag) → scope ≡ scopes.Block → is_listed scope t ≡ false
block_unlisted scopes.Block t e = refl
block_unlisted scopes.Entity t e = absurd (cc e)
block_unlisted scopes.All t e = absurd (cc e)

-- what terminals say of which the traversals are the same
says_same : (q : QueryParts) (s d t u : Dag) (listed : Bool) → IsOpenedFor s q → IsSound d → OpenedFrom t u → (path_walk q.path s).end ≡ terminal t → (path_walk q.path d).end ≡ terminal u
    → traversal q s ≡ traversal q d → (traversal q s).end ≡ whole → (is_block q.scope || is_listed q.scope t) ≡ true → is_listed q.scope t ≡ listed
    → node_text q.scope q.span t ≡ node_text q.scope q.span u
says_same q s d t u true right sound from e f same w late l =
    let too : is_listed q.scope u ≡ true = listed_too q.scope t u from l in
    listed_text q.scope q.span t l
    ∙ ap listing (sym (meet_entries q s t right e w l) ∙ ap (λ (given : Traversal). map named_met given.met) same ∙ traversal_met q d u sound f too)
    ∙ sym (listed_text q.scope q.span u too)
says_same q s d t u false right sound from e f same w late l =
    let block : q.scope ≡ scopes.Block = late_block q.scope t late l in
    sym (say_texts q s t right e w l) ∙ ap (λ (given : Traversal). given.text) same ∙ traversal-text q d u sound f (block_unlisted q.scope u block)

-- a text that is the answer is a front of it
whole_front : (out text : List ℕ) → out ≡ text → IsFrontOfAnswer out (Some text)
whole_front out text e = ([], sym e ∙ sym (append-nil out))

-- a late text of a traversal that came through is the answer
late_front : (q : QueryParts) (d s : Dag) → IsSound d → IsOpenedFor s q → OpenedFrom s d → is_late_terminal q.scope (path_walk q.path s).end ≡ true → (traversal q s).end ≡ whole
    → IsFrontOfAnswer (whole_text q s) (answer q d)
late_front q d s sound right from late w =
    let same : traversal q s ≡ traversal q d = not_early (traversal q s) (traversal q d) (λ spot f. cc (w, f)) (traversal_follows q s d from) in
    let (t, e, told) = late_terminal q.scope (path_walk q.path s).end late in
    let (u, f, said) = has_answer q d sound (ap (λ (t : Traversal). t.end) (sym same) ∙ w) in
    elim (path_follows q.path s d from) [
      | inl way ↦
          let below : OpenedFrom t u = ends_from (path_walk q.path s).end (path_walk q.path d).end t u way.end e f in
          let says : whole_text q s ≡ node_text q.scope q.span u =
          ap (λ (end : PathEnd). terminal_text q end) e ∙ says_same q s d t u (is_listed q.scope t) right sound below e f same w told refl in
          subst (λ (told : Option (List ℕ)). IsFrontOfAnswer (whole_text q s) told) (sym said) (whole_front (whole_text q s) (node_text q.scope q.span u) says)
      | inr lost ↦ absurd (cc (lost.end, e))
    ]

pub written_or_pair : OneKind → (q : QueryParts) (d s : Dag) → IsSound d → root_cid d ≡ q.root → IsOpenedFor s q → IsFrontOfAnswer (output_so_far q s) (answer q d) ⊎ CollisionPair (block_list q s) d
written_or_pair one_kind q d s sound root right =
    or_pair one_kind q d s (IsFrontOfAnswer (output_so_far q s) (answer q d)) sound root right
    (λ from. shown_front (is_late_terminal q.scope (path_walk q.path s).end) (traversal q s).end (whole_text q s) (traversal q s).text (answer q d)
    (λ late. front_written q d s sound from late) (λ late w. late_front q d s sound right from late w))

-- ---- scope all without a path

-- a walk along no path ends at a sound root
at_root : (d : Dag) → IsSound d → path_walk [] d ≡ record { sections = []; end = terminal d }
at_root (unopened cid) sound = absurd sound.whole
at_root (bare section fault) sound = absurd sound.whole
at_root (node section kind children) sound = refl

pub all_or_pair : OneKind → (q : QueryParts) (d s : Dag) (sections : List Section) (out : List ℕ) → IsSound d → root_cid d ≡ q.root → q.scope ≡ scopes.All → q.path ≡ [] → Fits s q sections out
    → (sections ≡ sent q (blocks d)) ⊎ CollisionPair sections d
all_or_pair one_kind q d s sections out sound root all none h =
    elim (answer_or_pair one_kind q d s sections out sound root h) [
      | inl told ↦
          let walk : path_walk q.path d ≡ record { sections = []; end = terminal d } = ap (λ (path : List (List ℕ)). path_walk path d) none ∙ at_root d sound in
          inl (told.0 ∙ ap (sent q) (all_opened q d d sound (ap (λ (w : PathWalk). w.end) walk) all ∙ ap (λ (before : List Section). before ++ blocks d) (ap (λ (w : PathWalk). w.sections) walk)))
      | inr pair ↦ inr pair
    ]
