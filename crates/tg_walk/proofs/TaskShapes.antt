-- What lies below a place doesn't depend on its depth, on its record's path or on its declared size.
use Rattle.std.proofs.Common.{List, None, Option, Some, [], ap, arith, map, refl, subst, suc, sym, zero, ℕ, ◌+◌, ◌++◌, ◌<◌, ◌∙◌, ◌∷◌, ◌≡◌, ◌≤◌}
use Rattle.std.specs.Prelude.{⊤}
use Rattle.tg_cid.specs.Cid.{CidParts}
use Rattle.tg_model.specs.Dag.{Section}
use Rattle.tg_model.specs.PathWalk.{StepTo, absent, not_folder_here, step_of, to_child, to_entry}
use Rattle.tg_model.specs.Queries.{QueryParts, SpanParts}
use Rattle.tg_model.specs.Sound.{Position, child, part, passed, position_fault, top}
use Rattle.tg_model.specs.Traversal.{ListedEntry, Reach, Visit, all_reach, bundled, entire, entity_reach, entry_visit, file_visits, listed, ranged, slot_visit, text_behind, visit_by_name, visits}
use Rattle.tg_model.specs.declared.kinds.Entry.{Entry}
use Rattle.tg_model.specs.declared.kinds.Kind.{Kind}
use Rattle.tg_model.specs.declared.kinds.Kind.TheVariants.{Basic, File, Raw, Shard, Symlink}
use Rattle.tg_model.specs.declared.kinds.Slot.{Slot}
use Rattle.tg_model.specs.declared.queries.Scope.{Scope}
use Rattle.tg_model.specs.declared.queries.Scope.TheVariants as scopes
use Rattle.tg_model_laws.specs.Tasks.{Task, Want, child_then, children_tasks, depth_at_top, depth_of, entries_now, entries_then, fault_at, give_entries, give_text, link_tasks, node_tasks, node_want, open_block, path_want, position_below, segment_want, step_tasks, stop_at, tasks_of, tasks_then, terminal_tasks, terminal_want, text_last}
use Rattle.tg_walk.specs.Known.{AreAllAt, EachAt, EachChild, IsNextWithin, position_alone, reach_alone, want_alone}

-- ---- something at each place

pub each_map : (P Q : Want → CidParts → Type 0) → ((w : Want) (cid : CidParts) → P w cid → Q w cid) → (tasks : List (Task CidParts)) → EachAt P tasks → EachAt Q tasks
each_map P Q f [] h = tt
each_map P Q f (open_block w cid ∷ tasks) h = (f w cid h.0, each_map P Q f tasks h.1)
each_map P Q f (give_text text ∷ tasks) h = each_map P Q f tasks h
each_map P Q f (give_entries met ∷ tasks) h = each_map P Q f tasks h
each_map P Q f (stop_at miss ∷ tasks) h = h

each_front : (P : Want → CidParts → Type 0) (a b : List (Task CidParts)) → EachAt P (a ++ b) → EachAt P a
each_front P [] b h = tt
each_front P (open_block w cid ∷ a) b h = (h.0, each_front P a b h.1)
each_front P (give_text text ∷ a) b h = each_front P a b h
each_front P (give_entries met ∷ a) b h = each_front P a b h
each_front P (stop_at miss ∷ a) b h = h

pub each_both : (P : Want → CidParts → Type 0) (a b : List (Task CidParts)) → EachAt P a → EachAt P b → EachAt P (a ++ b)
each_both P [] b h k = k
each_both P (open_block w cid ∷ a) b h k = (h.0, each_both P a b h.1 k)
each_both P (give_text text ∷ a) b h k = each_both P a b h k
each_both P (give_entries met ∷ a) b h k = each_both P a b h k
each_both P (stop_at miss ∷ a) b h k = h

pub each_text : (P : Want → CidParts → Type 0) (text : List ℕ) → EachAt P (text_last text)
each_text P [] = tt
each_text P (b ∷ text) = tt

each_entries : (P : Want → CidParts → Type 0) (met : List ListedEntry) (tasks : List (Task CidParts)) → EachAt P tasks → EachAt P (entries_then met tasks)
each_entries P [] tasks h = h
each_entries P (m ∷ met) tasks h = h

each_behind : (P : Want → CidParts → Type 0) (met : List ListedEntry) (tasks : List (Task CidParts)) → EachAt P (entries_then met tasks) → EachAt P tasks
each_behind P [] tasks h = h
each_behind P (m ∷ met) tasks h = h

pub child_front : (P : CidParts → Type 0) (a b : List (Task CidParts)) → EachChild P (a ++ b) → EachChild P a
child_front P [] b h = tt
child_front P (open_block w cid ∷ a) b h = (h.0, child_front P a b h.1)
child_front P (give_text text ∷ a) b h = child_front P a b h
child_front P (give_entries met ∷ a) b h = (h.0, child_front P a b h.1)
child_front P (stop_at miss ∷ a) b h = h

none_both : (a b : List ListedEntry) → a ++ b ≡ [] → (a ≡ []) × (b ≡ [])
none_both [] b e = (refl, e)
none_both (x ∷ a) b e = absurd (cc e)

-- ---- links that lead to the same

abbrev SameInto : Option (Reach × Position) → Option (Reach × Position) → Type 0
SameInto None None = ⊤
SameInto None (Some b) = ⊥
SameInto (Some a) None = ⊥
SameInto (Some a) (Some b) = (reach_alone a.0 ≡ reach_alone b.0) × (position_alone a.1 ≡ position_alone b.1)

abbrev SameVisits : List Visit → List Visit → Type 0
SameVisits [] [] = ⊤
SameVisits [] (v ∷ more) = ⊥
SameVisits (u ∷ todo) [] = ⊥
SameVisits (u ∷ todo) (v ∷ more) = SameInto u.into v.into × SameVisits todo more

into_again : (into : Option (Reach × Position)) → SameInto into into
into_again None = tt
into_again (Some a) = (refl, refl)

into_back : (a b : Option (Reach × Position)) → SameInto a b → SameInto b a
into_back None None h = tt
into_back None (Some b) h = h
into_back (Some a) None h = h
into_back (Some a) (Some b) h = (sym h.0, sym h.1)

same_again : (todo : List Visit) → SameVisits todo todo
same_again [] = tt
same_again (v ∷ todo) = (into_again v.into, same_again todo)

same_back : (todo more : List Visit) → SameVisits todo more → SameVisits more todo
same_back [] [] h = tt
same_back [] (v ∷ more) h = h
same_back (u ∷ todo) [] h = h
same_back (u ∷ todo) (v ∷ more) h = (into_back u.into v.into h.0, same_back todo more h.1)

passed_alone : (position : Position) → passed (position_alone position) ≡ passed position
passed_alone top = refl
passed_alone (part size) = refl
passed_alone (child above) = refl

same_entries : (reach : Reach) (entries : List Entry) → SameVisits (map (λ e. entry_visit reach e.name e.cid) entries) (map (λ e. entry_visit (reach_alone reach) e.name e.cid) entries)
same_entries (bundled path) [] = tt
same_entries (bundled path) (e ∷ entries) = ((refl, refl), same_entries (bundled path) entries)
same_entries entire entries = same_again _
same_entries (ranged low high) entries = same_again _
same_entries listed entries = same_again _

same_slot : (reach : Reach) (position : Position) (number : ℕ) (cid : CidParts) (name : Option (List ℕ))
    → SameInto (visit_by_name reach position number cid name).into (visit_by_name (reach_alone reach) (position_alone position) number cid name).into
same_slot (bundled path) position number cid (Some name) = (refl, refl)
same_slot (bundled path) position number cid None = (refl, ap (λ (above : List ℕ). child (above ++ number ∷ [])) (sym (passed_alone position)))
same_slot entire position number cid (Some name) = tt
same_slot entire position number cid None = tt
same_slot (ranged low high) position number cid (Some name) = tt
same_slot (ranged low high) position number cid None = tt
same_slot listed position number cid (Some name) = tt
same_slot listed position number cid None = (refl, ap (λ (above : List ℕ). child (above ++ number ∷ [])) (sym (passed_alone position)))

same_slots : (reach : Reach) (position : Position) (slots : List Slot) → SameVisits (map (slot_visit reach position) slots) (map (slot_visit (reach_alone reach) (position_alone position)) slots)
same_slots reach position [] = tt
same_slots reach position (s ∷ slots) = (same_slot reach position s.slot s.cid s.name, same_slots reach position slots)

same_files : (reach : Reach) (inline : List ℕ) (parts : _) → SameVisits (file_visits reach inline parts) (file_visits (reach_alone reach) inline parts)
same_files (bundled path) inline parts = same_again _
same_files entire inline parts = same_again _
same_files (ranged low high) inline parts = same_again _
same_files listed inline parts = same_again _

same_visits : (reach : Reach) (position : Position) (kind : Kind) → SameVisits (visits reach position kind) (visits (reach_alone reach) (position_alone position) kind)
same_visits reach position Raw = tt
same_visits reach position (File inline filesize parts) = same_files reach inline parts
same_visits reach position (Basic entries) = same_entries reach entries
same_visits reach position (Shard slots) = same_slots reach position slots
same_visits reach position (Symlink target) = tt

-- ---- and so below a block

module _ (R : Want → CidParts → Type 0) where
  abbrev Alone : Want → CidParts → Type 0
  Alone w cid = R (want_alone w) cid

  each_into : (a b : Option (Reach × Position)) (d e : ℕ) (x : CidParts) (tasks more : List (Task CidParts)) → SameInto a b → (EachAt Alone tasks → EachAt Alone more)
      → EachAt Alone (child_then a d x tasks) → EachAt Alone (child_then b e x more)
  each_into None None d e x tasks more s f h = f h
  each_into None (Some b) d e x tasks more s f h = absurd s
  each_into (Some a) None d e x tasks more s f h = absurd s
  each_into (Some a) (Some b) d e x tasks more s f h = (moved s.0 s.1 h.0, f h.1)
    where
      moved : reach_alone a.0 ≡ reach_alone b.0 → position_alone a.1 ≡ position_alone b.1 → R (node_want (reach_alone a.0) (position_alone a.1) 0) x → R (node_want (reach_alone b.0) (position_alone b.1) 0) x
      moved r p g = subst (λ (position : Position). R (node_want (reach_alone b.0) position 0) x) p (subst (λ (reach : Reach). R (node_want reach (position_alone a.1) 0) x) r g)

  each_child : (todo more : List Visit) (d e : ℕ) (xs : List CidParts) → SameVisits todo more → EachAt Alone (children_tasks todo d xs) → EachAt Alone (children_tasks more e xs)
  each_child todo more d e [] s h = tt
  each_child [] [] d e (x ∷ xs) s h = tt
  each_child [] (v ∷ more) d e (x ∷ xs) s h = absurd s
  each_child (u ∷ todo) [] d e (x ∷ xs) s h = absurd s
  each_child (u ∷ todo) (v ∷ more) d e (x ∷ xs) s h =
      each_entries Alone v.met (child_then v.into e x (children_tasks more e xs))
      (each_into u.into v.into d e x (children_tasks todo d xs) (children_tasks more e xs) s.0 (each_child todo more d e xs s.1)
      (each_behind Alone u.met (child_then u.into d x (children_tasks todo d xs)) h))

  each_node : (reach other : Reach) (position there : Position) (d e : ℕ) (kind : Kind) (xs : List CidParts) → SameVisits (visits reach position kind) (visits other there kind)
      → EachAt Alone (node_tasks reach position d kind xs) → EachAt Alone (node_tasks other there e kind xs)
  each_node reach other position there d e kind xs s h =
      each_both Alone (children_tasks (visits other there kind) (e + 1) xs) (text_last (text_behind other kind))
      (each_child (visits reach position kind) (visits other there kind) (d + 1) (e + 1) xs s
      (each_front Alone (children_tasks (visits reach position kind) (d + 1) xs) (text_last (text_behind reach kind)) h))
      (each_text Alone (text_behind other kind))

  pub each_alone : (q : QueryParts) (w : Want) (section : Section) (kind : Kind) (xs : List CidParts) → EachAt Alone (tasks_of q w section kind xs) → EachAt Alone (tasks_of q (want_alone w) section kind xs)
  each_alone q (segment_want i position name path depth) section kind xs h = h
  each_alone q (terminal_want depth) section kind xs h = h
  each_alone q (node_want reach position depth) section kind xs h =
      each_node reach (reach_alone reach) position (position_alone position) depth 0 kind xs (same_visits reach position kind) h

  pub each_there : (q : QueryParts) (w : Want) (section : Section) (kind : Kind) (xs : List CidParts) → EachAt Alone (tasks_of q (want_alone w) section kind xs) → EachAt Alone (tasks_of q w section kind xs)
  each_there q (segment_want i position name path depth) section kind xs h = h
  each_there q (terminal_want depth) section kind xs h = h
  each_there q (node_want reach position depth) section kind xs h =
      each_node (reach_alone reach) reach (position_alone position) position 0 depth kind xs (same_back _ _ (same_visits reach position kind)) h

position_fits : (position : Position) (kind : Kind) → position_fault (position_alone position) kind ≡ position_fault position kind
position_fits top kind = refl
position_fits (part size) Raw = refl
position_fits (part size) (File inline filesize parts) = refl
position_fits (part size) (Basic entries) = refl
position_fits (part size) (Shard slots) = refl
position_fits (part size) (Symlink target) = refl
position_fits (child above) kind = refl

pub fits_alone : (q : QueryParts) (w : Want) (kind : Kind) → fault_at q (want_alone w) kind ≡ fault_at q w kind
fits_alone q (segment_want i position name path depth) kind = refl
fits_alone q (terminal_want depth) kind = refl
fits_alone q (node_want reach position depth) kind = position_fits position kind

-- ---- depths

all_both : (n : ℕ) (a b : List (Task CidParts)) → AreAllAt n a → AreAllAt n b → AreAllAt n (a ++ b)
all_both n [] b h k = k
all_both n (open_block w cid ∷ a) b h k = (h.0, all_both n a b h.1 k)
all_both n (give_text text ∷ a) b h k = all_both n a b h k
all_both n (give_entries met ∷ a) b h k = all_both n a b h k
all_both n (stop_at miss ∷ a) b h k = all_both n a b h k

all_text : (n : ℕ) (text : List ℕ) → AreAllAt n (text_last text)
all_text n [] = tt
all_text n (b ∷ text) = tt

all_entries : (n : ℕ) (met : List ListedEntry) (tasks : List (Task CidParts)) → AreAllAt n tasks → AreAllAt n (entries_then met tasks)
all_entries n [] tasks h = h
all_entries n (m ∷ met) tasks h = h

all_into : (n : ℕ) (into : Option (Reach × Position)) (x : CidParts) (tasks : List (Task CidParts)) → AreAllAt n tasks → AreAllAt n (child_then into n x tasks)
all_into n None x tasks h = h
all_into n (Some into) x tasks h = (refl, h)

all_children : (todo : List Visit) (n : ℕ) (xs : List CidParts) → AreAllAt n (children_tasks todo n xs)
all_children todo n [] = tt
all_children [] n (x ∷ xs) = tt
all_children (v ∷ todo) n (x ∷ xs) = all_entries n v.met (child_then v.into n x (children_tasks todo n xs)) (all_into n v.into x (children_tasks todo n xs) (all_children todo n xs))

all_node : (reach : Reach) (position : Position) (depth : ℕ) (kind : Kind) (xs : List CidParts) → AreAllAt (depth + 1) (node_tasks reach position depth kind xs)
all_node reach position depth kind xs =
    all_both (depth + 1) (children_tasks (visits reach position kind) (depth + 1) xs) (text_last (text_behind reach kind))
    (all_children (visits reach position kind) (depth + 1) xs) (all_text (depth + 1) (text_behind reach kind))

all_link : (n k i : ℕ) (w : Want) (xs : List CidParts) → depth_of w ≡ n → AreAllAt n (link_tasks k i w xs)
all_link n k i w [] e = tt
all_link n zero i w (x ∷ xs) e = (e, tt)
all_link n (suc k) i w (x ∷ xs) e = all_link n k i w xs e

all_step : (n i : ℕ) (entry inner : Want) (step : StepTo) (xs : List CidParts) → depth_of entry ≡ n → depth_of inner ≡ n → AreAllAt n (step_tasks i entry inner step xs)
all_step n i entry inner (to_entry k) xs e f = all_link n k (i + 1) entry xs e
all_step n i entry inner (to_child k) xs e f = all_link n k i inner xs f
all_step n i entry inner absent xs e f = tt
all_step n i entry inner not_folder_here xs e f = tt

all_terminal : (scope : Scope) (span : Option SpanParts) (depth : ℕ) (section : Section) (kind : Kind) (xs : List CidParts) → AreAllAt (depth + 1) (terminal_tasks scope span depth section kind xs)
all_terminal scopes.Block span depth section kind xs = tt
all_terminal scopes.Entity span depth section kind xs = all_node (entity_reach span section kind) top depth kind xs
all_terminal scopes.All span depth section kind xs = all_node (all_reach kind) top depth kind xs

-- the places below a block are one deeper
pub one_deeper : (q : QueryParts) (w : Want) (section : Section) (kind : Kind) (xs : List CidParts) → AreAllAt (depth_of w + 1) (tasks_of q w section kind xs)
one_deeper q (segment_want i position name path depth) section kind xs =
    all_step (depth + 1) i (path_want (i + 1) path (depth + 1)) (segment_want i (position_below position name) name path (depth + 1))
    (step_of kind _ name) xs (depth_at_top (i + 1) path (depth + 1)) refl
one_deeper q (terminal_want depth) section kind xs = all_terminal q.scope q.span depth section kind xs
one_deeper q (node_want reach position depth) section kind xs = all_node reach position depth kind xs

-- ---- the next place

pub then_again : (tasks : List (Task CidParts)) → tasks_then (tasks_then tasks) ≡ tasks_then tasks
then_again [] = refl
then_again (open_block w cid ∷ tasks) = refl
then_again (give_text text ∷ tasks) = then_again tasks
then_again (give_entries met ∷ tasks) = then_again tasks
then_again (stop_at miss ∷ tasks) = refl

pub then_none : (tasks : List (Task CidParts)) → entries_now (tasks_then tasks) ≡ []
then_none [] = refl
then_none (open_block w cid ∷ tasks) = refl
then_none (give_text text ∷ tasks) = then_none tasks
then_none (give_entries met ∷ tasks) = then_none tasks
then_none (stop_at miss ∷ tasks) = refl

pub all_then : (n : ℕ) (tasks : List (Task CidParts)) → AreAllAt n tasks → AreAllAt n (tasks_then tasks)
all_then n [] h = h
all_then n (open_block w cid ∷ tasks) h = h
all_then n (give_text text ∷ tasks) h = all_then n tasks h
all_then n (give_entries met ∷ tasks) h = all_then n tasks h
all_then n (stop_at miss ∷ tasks) h = h

pub all_within : (n : ℕ) (tasks : List (Task CidParts)) → AreAllAt n tasks → IsNextWithin n tasks
all_within n [] h = tt
all_within n (open_block w cid ∷ tasks) h = omega (arith, h.0)
all_within n (give_text text ∷ tasks) h = all_within n tasks h
all_within n (give_entries met ∷ tasks) h = all_within n tasks h
all_within n (stop_at miss ∷ tasks) h = tt

within_more : (n m : ℕ) (tasks : List (Task CidParts)) → n ≤ m → IsNextWithin n tasks → IsNextWithin m tasks
within_more n m [] e h = tt
within_more n m (open_block w cid ∷ tasks) e h = omega (arith, e, h)
within_more n m (give_text text ∷ tasks) e h = within_more n m tasks e h
within_more n m (give_entries met ∷ tasks) e h = within_more n m tasks e h
within_more n m (stop_at miss ∷ tasks) e h = tt

pub within_both : (n : ℕ) (own rest : List (Task CidParts)) → AreAllAt (n + 1) own → IsNextWithin n rest → IsNextWithin (n + 1) (own ++ rest)
within_both n [] rest h k = within_more n (n + 1) rest (omega arith) k
within_both n (open_block w cid ∷ own) rest h k = omega (arith, h.0)
within_both n (give_text text ∷ own) rest h k = within_both n own rest h k
within_both n (give_entries met ∷ own) rest h k = within_both n own rest h k
within_both n (stop_at miss ∷ own) rest h k = tt

next_within : (n : ℕ) (w : Want) (cid : CidParts) (later rest : List (Task CidParts)) → tasks_then rest ≡ open_block w cid ∷ later → IsNextWithin n rest → depth_of w ≤ n
next_within n w cid later [] e h = absurd (cc e)
next_within n w cid later (open_block v other ∷ rest) e h = let same : v ≡ w = cc in subst (λ (x : Want). depth_of x ≤ n) same h
next_within n w cid later (give_text text ∷ rest) e h = next_within n w cid later rest e h
next_within n w cid later (give_entries met ∷ rest) e h = next_within n w cid later rest e h
next_within n w cid later (stop_at miss ∷ rest) e h = absurd (cc e)

-- a place below a block comes first of the block's own
pub record IsFirstOwn (n : ℕ) (w : Want) (cid : CidParts) (later own rest : List (Task CidParts)) : Type 1 where
  pub left : List (Task CidParts)
  pub is : later ≡ left ++ rest
  pub depth : depth_of w ≡ n + 1
  pub below : AreAllAt (n + 1) left
  pub gives : (P : Want → CidParts → Type 0) → P w cid → EachAt P left → EachAt P own
  pub child : (P : CidParts → Type 0) → entries_now (own ++ rest) ≡ [] → P cid → EachChild P left → EachChild P own

pub first_own : (n : ℕ) (w : Want) (cid : CidParts) (later own rest : List (Task CidParts)) → AreAllAt (n + 1) own → IsNextWithin n rest → n < depth_of w → tasks_then (own ++ rest) ≡ open_block w cid ∷ later
    → IsFirstOwn n w cid later own rest
first_own n w cid later [] rest h k d e = let less = next_within n w cid later rest e k in absurd (omega (arith, d, less))
first_own n w cid later (open_block v other ∷ own) rest h k d e =
    let same : v ≡ w = cc in
    let one : other ≡ cid = cc in
    record {
      left = own;
      is = cc;
      depth = ap depth_of (sym same) ∙ h.0;
      below = h.1;
      gives = λ P p each. (subst (λ (x : Want). P x other) (sym same) (subst (λ (c : CidParts). P w c) (sym one) p), each);
      child = λ P none p each. (subst P (sym one) p, each);
    }
first_own n w cid later (give_text text ∷ own) rest h k d e =
    let there = first_own n w cid later own rest h k d e in
    record { left = there.left; is = there.is; depth = there.depth; below = there.below; gives = there.gives; child = there.child }
first_own n w cid later (give_entries met ∷ own) rest h k d e =
    let there = first_own n w cid later own rest h k d e in
    record {
      left = there.left;
      is = there.is;
      depth = there.depth;
      below = there.below;
      gives = there.gives;
      child = λ P none p each. let both = none_both met (entries_now (own ++ rest)) none in (both.0, there.child P both.1 p each);
    }
first_own n w cid later (stop_at miss ∷ own) rest h k d e = absurd (cc e)

-- where the next place isn't below a block, none of its own is left
pub record IsNoOwn (w : Want) (cid : CidParts) (later own rest : List (Task CidParts)) : Type 1 where
  pub each : (P : Want → CidParts → Type 0) → EachAt P own
  pub is : tasks_then rest ≡ open_block w cid ∷ later
  pub child : (P : CidParts → Type 0) → entries_now (own ++ rest) ≡ [] → EachChild P own
  pub unmet : entries_now (own ++ rest) ≡ [] → entries_now rest ≡ []

pub no_own : (n : ℕ) (w : Want) (cid : CidParts) (later own rest : List (Task CidParts)) → AreAllAt (n + 1) own → depth_of w ≤ n → tasks_then (own ++ rest) ≡ open_block w cid ∷ later → IsNoOwn w cid later own rest
no_own n w cid later [] rest h d e = record { each = λ P. tt; is = e; child = λ P none. tt; unmet = λ none. none }
no_own n w cid later (open_block v other ∷ own) rest h d e =
    let same : v ≡ w = cc in
    let deep : depth_of w ≡ n + 1 = ap depth_of (sym same) ∙ h.0 in
    absurd (omega (arith, d, deep))
no_own n w cid later (give_text text ∷ own) rest h d e =
    let there = no_own n w cid later own rest h d e in
    record { each = there.each; is = there.is; child = there.child; unmet = there.unmet }
no_own n w cid later (give_entries met ∷ own) rest h d e =
    let there = no_own n w cid later own rest h d e in
    record {
      each = there.each;
      is = there.is;
      child = λ P none. let both = none_both met (entries_now (own ++ rest)) none in (both.0, there.child P both.1);
      unmet = λ none. let both = none_both met (entries_now (own ++ rest)) none in there.unmet both.1;
    }
no_own n w cid later (stop_at miss ∷ own) rest h d e = absurd (cc e)
