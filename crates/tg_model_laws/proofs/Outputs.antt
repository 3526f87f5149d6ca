-- What is written of a DAG that was opened for a query, by the text and the entries that its traversal gives.
use Rattle.std.proofs.Common.{◌≡◌, ℕ, ◌+◌, ◌-◌, Bool, true, false, Option, Some, None, List, [], ◌∷◌, ◌++◌, length, map, refl, sym, ap, ap₂, ◌∙◌, append-nil, subst}
use Rattle.std.specs.Prelude.{⊤, if◌then◌else◌}
use Rattle.tg_cid.specs.Cid.{CidParts}
use Rattle.tg_model_laws.specs.Openings.{IsAtBlock, IsAtPlace}
use Rattle.tg_model_laws.specs.PartialDags.{MeetEntries, SayTexts}
use Rattle.tg_model.specs.Answer.{is_listed, named_of, node_text}
use Rattle.tg_model.specs.Content.{entries}
use Rattle.tg_model.specs.Dag.{Children, Dag, Section, bare, no_child, node, unopened, with_child}
use Rattle.tg_model.specs.Fits.{IsOpenedFor, is_late_terminal, output_so_far, so_far, terminal_text, whole_text}
use Rattle.tg_model.specs.PathWalk.{PathEnd, Spot, Stop, TraversalEnd, not_reached, path_walk, stopped, terminal, whole}
use Rattle.tg_model.specs.Queries.{QueryParts, SpanParts}
use Rattle.tg_model.specs.Sound.{Position, part, position_fault, top}
use Rattle.tg_model.specs.Texts.{listing}
use Rattle.tg_model.specs.Traversal.{ListedEntry, Place, Reach, Traversal, Visit, after_end, and_then, at_terminal, bundled, ended, entire, entry_visit, file_reach, file_visits, from_end, giving_entries, giving_place, giving_text, is_met, listed, named_met, part_visits, passed_over, ranged, slot_visit, text_before, text_behind, traversal, traverse, traverse_children, unless_bad, visit_by_name, visited, visits}
use Rattle.tg_model.specs.declared.fault.BlockFault.{BlockFault}
use Rattle.tg_model.specs.declared.kinds.Kind.{Kind}
use Rattle.tg_model.specs.declared.kinds.Kind.TheVariants.{Basic, File, Raw, Shard, Symlink}
use Rattle.tg_model.specs.declared.kinds.Part.{Part}
use Rattle.tg_model.specs.declared.queries.Scope.{Scope}
use Rattle.tg_model.specs.declared.queries.Scope.TheVariants as scopes
use Rattle.tg_model_laws.specs.Stages.{Given, ending}
use Rattle.tg_model_laws.specs.Tasks.{Miss, no_directory, no_entry, stop_of}
use Rattle.tg_model_laws.specs.Verified.{listing_at_end, written_whole}

-- ---- reaches of which nothing of one kind is given

abbrev IntoIs : (Reach → Type 0) → Option (Reach × Position) → Type 0
IntoIs R None = ⊤
IntoIs R (Some into) = R into.0

abbrev EachVisit : (Reach → Type 0) → (Traversal → Type 0) → List Visit → Type 0
EachVisit R Z [] = ⊤
EachVisit R Z (visit ∷ todo) = (Z (giving_entries visit.met) × IntoIs R visit.into) × EachVisit R Z todo

each_mapped : {A : Type 0} (R : Reach → Type 0) (Z : Traversal → Type 0) (f : A → Visit) → ((x : A) → Z (giving_entries (f x).met) × IntoIs R (f x).into) → (xs : List A) → EachVisit R Z (map f xs)
each_mapped R Z f h [] = tt
each_mapped R Z f h (x ∷ xs) = (h x, each_mapped R Z f h xs)

module _ (R : Reach → Type 0) (Z : Traversal → Type 0) (none : Z (giving_text [])) (both : (a b : Traversal) → Z a → Z b → Z (and_then a b)) (stop : (s : Stop) → IsAtBlock s → Z (ended s))
    (at_place : (reach : Reach) (position : Position) (p : Place) (section : Section) (kind : Kind) → R reach → Z (giving_place p (text_before reach position section kind)))
    (behind : (reach : Reach) (kind : Kind) → R reach → Z (giving_text (text_behind reach kind)))
    (inside : (reach : Reach) (position : Position) (kind : Kind) → R reach → EachVisit R Z (visits reach position kind)) where
  unless_any : (spot : Spot) (fault : Option BlockFault) (t : Traversal) → Z t → Z (unless_bad spot fault t)
  unless_any spot None t h = h
  unless_any spot (Some fault) t h = stop _ tt

  visited_any : (into : Option (Reach × Position)) (depth : ℕ) (d : Dag) → IntoIs R into → ((reach : Reach) (position : Position) → R reach → Z (traverse reach position depth d))
      → Z (visited (λ reach position. traverse reach position depth d) into)
  visited_any None depth d r h = none
  visited_any (Some into) depth d r h = h into.0 into.1 r

  mutual
    in_dag : (reach : Reach) (position : Position) (depth : ℕ) (d : Dag) → R reach → Z (traverse reach position depth d)
    in_dag reach position depth (unopened cid) r = stop _ tt
    in_dag reach position depth (bare section None) r = stop _ tt
    in_dag reach position depth (bare section (Some fault)) r = stop _ tt
    in_dag reach position depth (node section kind children) r =
        unless_any _ (position_fault position kind) _
        (both _ _ (at_place reach position (record { section = section; depth = depth }) section kind r)
        (both _ _ (in_children (visits reach position kind) (depth + 1) children (inside reach position kind r)) (behind reach kind r)))

    in_children : (todo : List Visit) (depth : ℕ) (children : Children) → EachVisit R Z todo → Z (traverse_children todo depth children)
    in_children todo depth no_child h = none
    in_children [] depth (with_child d children) h = none
    in_children (visit ∷ todo) depth (with_child d children) h =
        both _ _ h.0.0 (both _ _ (visited_any visit.into depth d h.0.1 (λ reach position r. in_dag reach position depth d r)) (in_children todo depth children h.1))

-- ---- a listing gives no text

abbrev HasNoText : Traversal → Type 0
HasNoText t = t.text ≡ []

abbrev IsListing : Reach → Type 0
IsListing (bundled path) = ⊥
IsListing entire = ⊥
IsListing (ranged low high) = ⊥
IsListing listed = ⊤

no_text_both : (end : TraversalEnd) (a b : Traversal) → HasNoText a → HasNoText b → HasNoText (after_end end a b)
no_text_both whole a b h g = ap₂ (λ (x y : List ℕ). x ++ y) h g
no_text_both (stopped stop) a b h g = h

no_text_before : (reach : Reach) (position : Position) (p : Place) (section : Section) (kind : Kind) → IsListing reach → HasNoText (giving_place p (text_before reach position section kind))
no_text_before (bundled path) position p section kind r = absurd r
no_text_before entire position p section kind r = absurd r
no_text_before (ranged low high) position p section kind r = absurd r
no_text_before listed position p section kind r = refl

no_text_behind : (reach : Reach) (kind : Kind) → IsListing reach → HasNoText (giving_text (text_behind reach kind))
no_text_behind (bundled path) kind r = absurd r
no_text_behind entire kind r = refl
no_text_behind (ranged low high) kind r = refl
no_text_behind listed kind r = refl

listed_slot : (position : Position) (number : ℕ) (cid : CidParts) (name : Option (List ℕ))
    → HasNoText (giving_entries (visit_by_name listed position number cid name).met) × IntoIs IsListing (visit_by_name listed position number cid name).into
listed_slot position number cid None = (refl, tt)
listed_slot position number cid (Some name) = (refl, tt)

listed_visits : (reach : Reach) (position : Position) (kind : Kind) → IsListing reach → EachVisit IsListing HasNoText (visits reach position kind)
listed_visits (bundled path) position kind r = absurd r
listed_visits entire position kind r = absurd r
listed_visits (ranged low high) position kind r = absurd r
listed_visits listed position Raw r = tt
listed_visits listed position (File inline filesize parts) r = each_mapped IsListing HasNoText (λ p. passed_over) (λ p. (refl, tt)) parts
listed_visits listed position (Basic es) r = each_mapped IsListing HasNoText (λ e. entry_visit listed e.name e.cid) (λ e. (refl, tt)) es
listed_visits listed position (Shard slots) r = each_mapped IsListing HasNoText (slot_visit listed position) (λ s. listed_slot position s.slot s.cid s.name) slots
listed_visits listed position (Symlink target) r = tt

listing_has_no_text : (position : Position) (depth : ℕ) (d : Dag) → (traverse listed position depth d).text ≡ []
listing_has_no_text position depth d =
    in_dag IsListing HasNoText refl (λ a b h g. no_text_both a.end a b h g) (λ s at. refl) no_text_before no_text_behind listed_visits listed position depth d tt

-- ---- a content meets no entries

abbrev HasNoEntry : Traversal → Type 0
HasNoEntry t = t.met ≡ []

abbrev IsContent : Reach → Type 0
IsContent (bundled path) = ⊥
IsContent entire = ⊤
IsContent (ranged low high) = ⊤
IsContent listed = ⊥

no_entry_both : (end : TraversalEnd) (a b : Traversal) → HasNoEntry a → HasNoEntry b → HasNoEntry (after_end end a b)
no_entry_both whole a b h g = ap₂ (λ (x y : List ListedEntry). x ++ y) h g
no_entry_both (stopped stop) a b h g = h

content_part : (met : Bool) (low high size : ℕ)
    → (let visit : Visit = if met then record { met = []; into = Some (ranged low high, part size) } else passed_over in HasNoEntry (giving_entries visit.met) × IntoIs IsContent visit.into)
content_part true low high size = (refl, tt)
content_part false low high size = (refl, tt)

content_parts : (low high from : ℕ) (parts : List Part) → EachVisit IsContent HasNoEntry (part_visits low high from parts)
content_parts low high from [] = tt
content_parts low high from (p ∷ parts) = (content_part (is_met low high from p.size) (low - from) (high - from) p.size, content_parts low high (from + p.size) parts)

content_slot : (reach : Reach) (position : Position) (number : ℕ) (cid : CidParts) (name : Option (List ℕ)) → IsContent reach
    → HasNoEntry (giving_entries (visit_by_name reach position number cid name).met) × IntoIs IsContent (visit_by_name reach position number cid name).into
content_slot (bundled path) position number cid name r = absurd r
content_slot entire position number cid None r = (refl, tt)
content_slot entire position number cid (Some name) r = (refl, tt)
content_slot (ranged low high) position number cid None r = (refl, tt)
content_slot (ranged low high) position number cid (Some name) r = (refl, tt)
content_slot listed position number cid name r = absurd r

content_entry : (reach : Reach) (name : List ℕ) (cid : CidParts) → IsContent reach → HasNoEntry (giving_entries (entry_visit reach name cid).met) × IntoIs IsContent (entry_visit reach name cid).into
content_entry (bundled path) name cid r = absurd r
content_entry entire name cid r = (refl, tt)
content_entry (ranged low high) name cid r = (refl, tt)
content_entry listed name cid r = absurd r

content_file : (reach : Reach) (inline : List ℕ) (parts : List Part) → IsContent reach → EachVisit IsContent HasNoEntry (file_visits reach inline parts)
content_file (bundled path) inline parts r = absurd r
content_file entire inline parts r = each_mapped IsContent HasNoEntry (λ p. record { met = []; into = Some (entire, part p.size) }) (λ p. (refl, tt)) parts
content_file (ranged low high) inline parts r = content_parts low high (length inline) parts
content_file listed inline parts r = absurd r

content_visits : (reach : Reach) (position : Position) (kind : Kind) → IsContent reach → EachVisit IsContent HasNoEntry (visits reach position kind)
content_visits reach position Raw r = tt
content_visits reach position (File inline filesize parts) r = content_file reach inline parts r
content_visits reach position (Basic es) r = each_mapped IsContent HasNoEntry (λ e. entry_visit reach e.name e.cid) (λ e. content_entry reach e.name e.cid r) es
content_visits reach position (Shard slots) r = each_mapped IsContent HasNoEntry (slot_visit reach position) (λ s. content_slot reach position s.slot s.cid s.name r) slots
content_visits reach position (Symlink target) r = tt

content_has_no_entry : (reach : Reach) (position : Position) (depth : ℕ) (d : Dag) → IsContent reach → (traverse reach position depth d).met ≡ []
content_has_no_entry reach position depth d r =
    in_dag IsContent HasNoEntry refl (λ a b h g. no_entry_both a.end a b h g) (λ s at. refl) (λ reach position p section kind r. refl) (λ reach kind r. refl) content_visits reach position depth d r

-- ---- at the terminal

file_content : (span : Option SpanParts) (total : ℕ) → IsContent (file_reach span total)
file_content None total = tt
file_content (Some span) total = tt

-- of what isn't listed no entries are listed
unlisted : (scope : Scope) (span : Option SpanParts) (depth : ℕ) (t : Dag) → is_listed scope t ≡ false → listing_at_end scope (at_terminal scope span depth t).met ≡ []
unlisted scopes.Block span depth t e = refl
unlisted scopes.All span depth t e = refl
unlisted scopes.Entity span depth (unopened cid) e = refl
unlisted scopes.Entity span depth (bare section None) e = refl
unlisted scopes.Entity span depth (bare section (Some fault)) e = refl
unlisted scopes.Entity span depth (node section Raw children) e =
    ap (λ (met : List ListedEntry). listing (map named_met met)) (content_has_no_entry (file_reach span _) top depth (node section Raw children) (file_content span _))
unlisted scopes.Entity span depth (node section (File inline filesize parts) children) e =
    ap (λ (met : List ListedEntry). listing (map named_met met)) (content_has_no_entry (file_reach span _) top depth (node section (File inline filesize parts) children) (file_content span _))
unlisted scopes.Entity span depth (node section (Basic es) children) e = absurd (cc e)
unlisted scopes.Entity span depth (node section (Shard slots) children) e = absurd (cc e)
unlisted scopes.Entity span depth (node section (Symlink target) children) e =
    ap (λ (met : List ListedEntry). listing (map named_met met)) (content_has_no_entry entire top depth (node section (Symlink target) children) tt)

-- what is listed gives no text, and says its listing
listed_alone : (scope : Scope) (span : Option SpanParts) (depth : ℕ) (t : Dag) → is_listed scope t ≡ true → (at_terminal scope span depth t).text ≡ []
listed_alone scopes.Entity span depth (node section (Basic es) children) e = listing_has_no_text top depth (node section (Basic es) children)
listed_alone scopes.Entity span depth (node section (Shard slots) children) e = listing_has_no_text top depth (node section (Shard slots) children)
listed_alone _ span depth _ e = absurd (cc e)

listed_says : (scope : Scope) (span : Option SpanParts) (t : Dag) (met : List ListedEntry) → is_listed scope t ≡ true → map named_met met ≡ map named_of (entries t)
    → node_text scope span t ≡ listing_at_end scope met
listed_says scopes.Entity span (node section (Basic es) children) met e m = ap listing (sym m)
listed_says scopes.Entity span (node section (Shard slots) children) met e m = ap listing (sym m)
listed_says _ span _ met e m = absurd (cc e)

-- a late text before the traversal came through
late_stopped : (scope : Scope) (span : Option SpanParts) (depth : ℕ) (end : PathEnd) (stop : Stop) → is_late_terminal scope end ≡ true → (from_end end scope span depth).end ≡ stopped stop
    → (from_end end scope span depth).text ≡ []
late_stopped scope span depth (not_reached other) stop l e = refl
late_stopped scopes.Block span depth (terminal (unopened cid)) stop l e = refl
late_stopped scopes.Block span depth (terminal (bare section fault)) stop l e = absurd (cc e)
late_stopped scopes.Block span depth (terminal (node section kind children)) stop l e = absurd (cc e)
late_stopped scopes.Entity span depth (terminal t) stop l e = listed_alone scopes.Entity span depth t l
late_stopped scopes.All span depth (terminal t) stop l e = absurd (cc l)

-- ---- below a terminal a traversal ends at a place

abbrev EndsAtPlace : Traversal → Type 0
EndsAtPlace t = IsAtPlace t.end

at_place_both : (end : TraversalEnd) (a b : Traversal) → a.end ≡ end → EndsAtPlace a → EndsAtPlace b → EndsAtPlace (after_end end a b)
at_place_both whole a b e h g = g
at_place_both (stopped stop) a b e h g = h

any_into : (into : Option (Reach × Position)) → IntoIs (λ reach. ⊤) into
any_into None = tt
any_into (Some into) = tt

any_visits : (todo : List Visit) → EachVisit (λ reach. ⊤) EndsAtPlace todo
any_visits [] = tt
any_visits (visit ∷ todo) = ((tt, any_into visit.into), any_visits todo)

ends_at_place : (reach : Reach) (position : Position) (depth : ℕ) (d : Dag) → EndsAtPlace (traverse reach position depth d)
ends_at_place reach position depth d =
    in_dag (λ reach. ⊤) EndsAtPlace tt (λ a b h g. at_place_both a.end a b refl h g) (λ s at. at) (λ reach position p section kind r. tt) (λ reach kind r. tt)
    (λ reach position kind r. any_visits (visits reach position kind)) reach position depth d tt

terminal_at_place : (scope : Scope) (span : Option SpanParts) (depth : ℕ) (t : Dag) → EndsAtPlace (at_terminal scope span depth t)
terminal_at_place scopes.Block span depth (unopened cid) = tt
terminal_at_place scopes.Block span depth (bare section fault) = tt
terminal_at_place scopes.Block span depth (node section kind children) = tt
terminal_at_place scopes.Entity span depth t = ends_at_place _ top depth t
terminal_at_place scopes.All span depth t = ends_at_place _ top depth t

-- so one that stops where a segment leads nowhere gives no text
no_block : (miss : Miss) → IsAtBlock (stop_of miss) → ⊥
no_block (no_entry i) h = h
no_block (no_directory i) h = h

nowhere_alone : (scope : Scope) (span : Option SpanParts) (depth : ℕ) (end : PathEnd) (miss : Miss) → (from_end end scope span depth).end ≡ stopped (stop_of miss)
    → (from_end end scope span depth).text ≡ []
nowhere_alone scope span depth (not_reached stop) miss e = refl
nowhere_alone scope span depth (terminal t) miss e = absurd (no_block miss (subst IsAtPlace e (terminal_at_place scope span depth t)))

pub nowhere_text : (q : QueryParts) (s : Dag) (given : Given) (miss : Miss) → traversal q s ≡ ending given (stopped (stop_of miss)) → given.text ≡ []
nowhere_text q s given miss e =
    let walk = path_walk q.path s in
    sym (ap (λ (t : Traversal). t.text) e) ∙ nowhere_alone q.scope q.span (length walk.sections + 1) walk.end miss (ap (λ (t : Traversal). t.end) e)

-- ---- what is written

so_far_stopped : (late : Bool) (end : TraversalEnd) (stop : Stop) (all text : List ℕ) → end ≡ stopped stop → (late ≡ true → text ≡ []) → so_far late end all text ≡ text
so_far_stopped true whole stop all text e h = absurd (cc e)
so_far_stopped true (stopped other) stop all text e h = sym (h refl)
so_far_stopped false end stop all text e h = refl

pub written_stopped : (q : QueryParts) (s : Dag) (given : Given) (stop : Stop) → traversal q s ≡ ending given (stopped stop) → output_so_far q s ≡ given.text
written_stopped q s given stop e =
    let walk = path_walk q.path s in
    let ends : (traversal q s).end ≡ stopped stop = ap (λ (t : Traversal). t.end) e in
    so_far_stopped (is_late_terminal q.scope walk.end) (traversal q s).end stop (whole_text q s) (traversal q s).text ends
    (λ late. late_stopped q.scope q.span (length walk.sections + 1) walk.end stop late ends)
    ∙ ap (λ (t : Traversal). t.text) e

so_far_whole : (late : Bool) (end : TraversalEnd) (all text : List ℕ) → end ≡ whole → (late ≡ false → text ≡ all) → so_far late end all text ≡ all
so_far_whole true whole all text e h = refl
so_far_whole true (stopped stop) all text e h = absurd (cc e)
so_far_whole false end all text e h = h refl

-- a terminal that isn't late isn't listed
early_unlisted : (scope : Scope) (t : Dag) → is_late_terminal scope (terminal t) ≡ false → is_listed scope t ≡ false
early_unlisted scopes.Block t e = refl
early_unlisted scopes.Entity t e = e
early_unlisted scopes.All t e = refl

module _ (say : SayTexts) (meet : MeetEntries) (q : QueryParts) (s : Dag) (given : Given) (opened : IsOpenedFor s q) (e : traversal q s ≡ ending given whole) where
  ends : (traversal q s).end ≡ whole
  ends = ap (λ (t : Traversal). t.end) e

  abbrev depth_is : ℕ
  depth_is = length (path_walk q.path s).sections + 1

  -- by whether the terminal is listed
  by_listed : (t : Dag) (test : Bool) → (path_walk q.path s).end ≡ terminal t → is_listed q.scope t ≡ test → node_text q.scope q.span t ≡ written_whole q given
  by_listed t false p l =
      let text : (traversal q s).text ≡ node_text q.scope q.span t = say q s t opened p ends l in
      let met : (traversal q s).met ≡ (at_terminal q.scope q.span depth_is t).met = ap (λ (end : PathEnd). (from_end end q.scope q.span depth_is).met) p in
      let none : listing_at_end q.scope given.met ≡ [] =
      ap (listing_at_end q.scope) (sym (ap (λ (t : Traversal). t.met) e) ∙ met) ∙ unlisted q.scope q.span depth_is t l in
      sym text ∙ ap (λ (t : Traversal). t.text) e ∙ sym (append-nil given.text) ∙ ap (λ (more : List ℕ). given.text ++ more) (sym none)
  by_listed t true p l =
      let met : map named_met (traversal q s).met ≡ map named_of (entries t) = meet q s t opened p ends l in
      let text : given.text ≡ [] =
      sym (ap (λ (t : Traversal). t.text) e) ∙ ap (λ (end : PathEnd). (from_end end q.scope q.span depth_is).text) p ∙ listed_alone q.scope q.span depth_is t l in
      listed_says q.scope q.span t (traversal q s).met l met ∙ ap (λ (t : Traversal). listing_at_end q.scope t.met) e
      ∙ ap (λ (before : List ℕ). before ++ listing_at_end q.scope given.met) (sym text)

  by_end : (end : PathEnd) → (path_walk q.path s).end ≡ end → (terminal_text q end ≡ written_whole q given) × (is_late_terminal q.scope end ≡ false → (traversal q s).text ≡ terminal_text q end)
  by_end (terminal t) p = (by_listed t (is_listed q.scope t) p refl, λ early. say q s t opened p ends (early_unlisted q.scope t early))
  by_end (not_reached stop) p =
      let stops : stopped stop ≡ whole = sym (ap (λ (end : PathEnd). (from_end end q.scope q.span depth_is).end) p) ∙ ends in
      absurd (cc stops)

  pub whole_is : whole_text q s ≡ written_whole q given
  whole_is = (by_end (path_walk q.path s).end refl).0

  pub written_is : output_so_far q s ≡ written_whole q given
  written_is =
      so_far_whole (is_late_terminal q.scope (path_walk q.path s).end) (traversal q s).end (whole_text q s) (traversal q s).text ends (by_end (path_walk q.path s).end refl).1 ∙ whole_is
