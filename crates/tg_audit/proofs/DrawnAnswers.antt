-- The answers of a drawn folder's DAG are those that are expected by what was drawn.
use Rattle.std.proofs.Common.{Bool, Contains, List, None, Option, Some, [], false, true, ap, append-nil, arith, drop, length, lit<, refl, subst, sym, take, ℕ, ◌+◌, ◌++◌, ◌-◌, ◌<◌, ◌∙◌, ◌∷◌, ◌≡◌, ◌≤◌}
use Rattle.std.proofs.lemmas.List.{length-drop, take_all}
use Rattle.std.specs.Map.{keys_of, lookup}
use Rattle.std.specs.Prelude.{bytes_eq, codes, map, min}
use Rattle.tg_audit.proofs.DagEntries.{directory_of, file_says, missing_at, stands_at}
use Rattle.tg_audit.proofs.Members.{first_one, none_in}
use Rattle.tg_audit.specs.Packing.{audit_options}
use Rattle.tg_audit_texts.specs.Expected.{AreHashed, AreTexts, IsBundle, first_of, last_of, named_from, part}
use Rattle.tg_audit_texts.specs.Hashing.{IsHashOf}
use Rattle.tg_audit_texts.specs.Queries.{absent_query, answer_queries, car_query}
use Rattle.tg_audit_texts.specs.declared.hashing.Hashed.{Hashed}
use Rattle.tg_bytes.specs.Ascii.{slash}
use Rattle.tg_cid.specs.Cid.{CidParts}
use Rattle.tg_draws.specs.Trees.{AreFilesFrom, IsFileOf, IsFolderWith, IsTreeOf}
use Rattle.tg_draws.specs.declared.drawing.Drawn.{Drawn}
use Rattle.tg_import.specs.Imported.{layout}
use Rattle.tg_model.specs.Answer.{all_text, answer, answer_at, bundle_of_entries, content_text}
use Rattle.tg_model.specs.ByteRanges.{slice_of}
use Rattle.tg_model.specs.Content.{DirEntry, entries, named_children}
use Rattle.tg_model.specs.Dag.{Children, Dag, bare, no_child, node, root_cid, unopened, with_child}
use Rattle.tg_model.specs.Ends.{EndsAlike}
use Rattle.tg_model.specs.ImportLayout.{IsLaidAt, weight_of}
use Rattle.tg_model.specs.Lookup.{lookup_path}
use Rattle.tg_model.specs.Lookup as lookups
use Rattle.tg_model.specs.PathWalk.{PathEnd, not_reached, path_walk, stopped, terminal}
use Rattle.tg_model.specs.PathWalk as walks
use Rattle.tg_model.specs.Queries.{QueryParts, SpanParts}
use Rattle.tg_model.specs.ShowsTree.{Shows}
use Rattle.tg_model.specs.Sound.{top}
use Rattle.tg_model.specs.Texts.{dir_line, listing}
use Rattle.tg_model.specs.Traversal.{from_end, traversal}
use Rattle.tg_model.specs.declared.kinds.Entry.{Entry}
use Rattle.tg_model.specs.declared.kinds.Kind.TheVariants.{Basic, File, Raw, Shard, Symlink}
use Rattle.tg_model.specs.declared.queries.Scope.TheVariants as scopes
use Rattle.tg_model.specs.declared.queries.SpanFrom.TheVariants as froms
use Rattle.tg_tree.specs.Tree.{child}
use Rattle.tg_tree.specs.declared.tree.Tree.{Tree}

-- ---- ranges

at_end : (to size : ℕ) → to < size → min (to + 1) size ≡ to + 1
at_end to size h = omega (arith, h)

slice_part : (from to : ℕ) (bytes : List ℕ) → to < length bytes → slice_of bytes (record { from = froms.Start from; to = Some to }) ≡ part from (to + 1 - from) bytes
unfolding part
slice_part from to bytes h = ap (λ (n : ℕ). take (n - from) (drop from bytes)) (at_end to (length bytes) h)

slice_last : (count : ℕ) (bytes : List ℕ) → slice_of bytes (record { from = froms.Last count; to = None }) ≡ last_of count bytes
unfolding last_of
slice_last count bytes =
    take_all (length bytes - (length bytes - count)) (drop (length bytes - count) bytes)
    (let long = length-drop (length bytes - count) bytes in omega (arith, long))

slice_behind : (from : ℕ) (bytes : List ℕ) → length bytes ≤ from → slice_of bytes (record { from = froms.Start from; to = None }) ≡ []
slice_behind from bytes h = let none : length bytes - from ≡ 0 = omega (arith, h) in ap (λ (n : ℕ). take n (drop from bytes)) none

-- ---- an empty folder

no_names : (l : List DirEntry) → ((name : List ℕ) → Contains (map (λ entry. entry.name) l) name → ⊥) → l ≡ []
no_names [] h = refl
no_names (e ∷ l) h = absurd (h e.name (first_one e.name (map (λ entry. entry.name) l)))

no_lines : (path : List ℕ) (es : List Entry) (children : Children) → named_children es children ≡ [] → bundle_of_entries path es children ≡ []
no_lines path es no_child e = refl
no_lines path [] (with_child d children) e = refl
no_lines path (entry ∷ es) (with_child d children) e = absurd (cc e)

pub nothing_in : (tree : Tree) (d : Dag) → IsFolderWith [] tree → Shows d tree → entries d ≡ []
nothing_in tree d is shown =
    let dir = directory_of tree d is.sort shown in
    no_names (entries d) (λ name c. none_in name (subst (λ (l : List (List ℕ)). Contains l name) (ap keys_of is.entries_are) ((dir.names.names name).0 c)))

empty_says : (tree : Tree) (d : Dag) → IsFolderWith [] tree → Shows d tree → IsLaidAt (layout audit_options) top d → all_text d ≡ dir_line (codes "/")
empty_says tree (unopened cid) is shown laid = absurd shown
empty_says tree (bare section fault) is shown laid = absurd shown
empty_says tree (node section Raw children) is shown laid =
    let dir = directory_of tree (node section Raw children) is.sort shown in absurd (cc dir.directory)
empty_says tree (node section (File inline filesize parts) children) is shown laid =
    let dir = directory_of tree (node section (File inline filesize parts) children) is.sort shown in absurd (cc dir.directory)
empty_says tree (node section (Basic es) children) is shown laid =
    ap (λ (l : List ℕ). dir_line (slash ∷ []) ++ l) (no_lines (slash ∷ []) es children (nothing_in tree (node section (Basic es) children) is shown)) ∙ append-nil (dir_line (slash ∷ []))
empty_says tree (node section (Shard slots) children) is shown laid =
    let none : weight_of (entries (node section (Shard slots) children)) ≡ 0 = ap weight_of (nothing_in tree (node section (Shard slots) children) is shown) in
    absurd (omega (arith, none, laid.0))
empty_says tree (node section (Symlink target) children) is shown laid =
    let dir = directory_of tree (node section (Symlink target) children) is.sort shown in absurd (cc dir.directory)

-- ---- the queries

-- that of the bundle of all, and that of the listing of `many`
abbrev pub bundle_query : CidParts → QueryParts
bundle_query root = car_query root [] scopes.All None true

abbrev pub listing_query : CidParts → QueryParts
listing_query root = car_query root (codes "many" ∷ []) scopes.Entity None false

-- the answers of a DAG to queries
abbrev AreAnswersOf : Dag → List QueryParts → List (List ℕ) → Type 0
AreAnswersOf d [] texts = texts ≡ []
AreAnswersOf d (q ∷ queries) [] = ⊥
AreAnswersOf d (q ∷ queries) (text ∷ texts) = (answer q d ≡ Some text) × AreAnswersOf d queries texts

-- of which these are the lengths and the digests
abbrev pub AnswersAs : Dag → List QueryParts → List Hashed → Type 0
AnswersAs d [] expected = expected ≡ []
AnswersAs d (q ∷ queries) [] = ⊥
AnswersAs d (q ∷ queries) (one ∷ expected) = ((text : List ℕ) × (answer q d ≡ Some text) × IsHashOf text one) × AnswersAs d queries expected

answers_as : (d : Dag) (queries : List QueryParts) (texts : List (List ℕ)) (expected : List Hashed) → AreAnswersOf d queries texts → AreHashed texts expected → AnswersAs d queries expected
answers_as d [] texts expected a h = subst (λ (l : List (List ℕ)). AreHashed l expected) a h
answers_as d (q ∷ queries) [] expected a h = absurd a
answers_as d (q ∷ queries) (text ∷ texts) [] a h = absurd h
answers_as d (q ∷ queries) (text ∷ texts) (one ∷ expected) a h = ((text, a.0, h.0), answers_as d queries texts expected a.1 h.1)

module _ (drawn : Drawn) (tree : Tree) (is : IsTreeOf drawn tree) (d : Dag) (shows : Shows d tree) (laid : IsLaidAt (layout audit_options) top d) where
  -- what has a name in the root
  child_is : (name : List ℕ) (below : Option Tree)
      → lookup (bytes_eq name) ((codes "big", is.big) ∷ (codes "many", is.many) ∷ (codes "empty", is.empty) ∷ (codes "none", is.none) ∷ []) ≡ below → child tree name ≡ below
  child_is name below e = ap (lookup (bytes_eq name)) is.is_folder.entries_are ∙ e

  -- a file of the root, and a range of it
  file_answer : (name : List ℕ) (file : Tree) (bytes : List ℕ) (span : Option SpanParts) (dups : Bool) → child tree name ≡ Some file → IsFileOf bytes file
      → answer (car_query (root_cid d) (name ∷ []) scopes.Entity span dups) d ≡ Some (content_text span bytes)
  file_answer name file bytes span dups at of =
      let x = stands_at (layout audit_options) tree d name file is.is_folder.sort shows laid at in
      ap (answer_at (car_query (root_cid d) (name ∷ []) scopes.Entity span dups)) (x.leads 0 []) ∙ ap Some (file_says span file bytes x.dag of x.shows)

  empty_answer : answer (car_query (root_cid d) (codes "empty" ∷ []) scopes.All None true) d ≡ Some (dir_line (codes "/"))
  empty_answer =
      let x = stands_at (layout audit_options) tree d (codes "empty") is.empty is.is_folder.sort shows laid (child_is (codes "empty") (Some is.empty) refl) in
      ap (answer_at (car_query (root_cid d) (codes "empty" ∷ []) scopes.All None true)) (x.leads 0 []) ∙ ap Some (empty_says is.empty x.dag is.empty_is x.shows x.laid)

  first_answer : (many : List (List ℕ)) (files : List (List ℕ × Tree)) → 0 < length many → AreFilesFrom 0 many files → IsFolderWith files is.many
      → answer (car_query (root_cid d) (codes "many" ∷ codes "f000000" ∷ []) scopes.Entity None false) d ≡ Some (first_of many)
  first_answer [] files some are of = absurd (omega (arith, some))
  first_answer (bytes ∷ many) [] some are of = absurd are
  first_answer (bytes ∷ many) (e ∷ files) some are of =
      let x = stands_at (layout audit_options) tree d (codes "many") is.many is.is_folder.sort shows laid (child_is (codes "many") (Some is.many) refl) in
      let named : e.0 ≡ codes "f000000" = are.0 in
      let at : child is.many (codes "f000000") ≡ Some e.1 =
      ap (lookup (bytes_eq (codes "f000000"))) of.entries_are ∙ ap (λ (name : List ℕ). lookup (bytes_eq (codes "f000000")) ((name, e.1) ∷ files)) named in
      let y = stands_at (layout audit_options) is.many x.dag (codes "f000000") e.1 of.sort x.shows x.laid at in
      ap (answer_at (car_query (root_cid d) (codes "many" ∷ codes "f000000" ∷ []) scopes.Entity None false)) (x.leads 0 (codes "f000000" ∷ []) ∙ y.leads 1 [])
      ∙ ap Some (file_says None e.1 bytes y.dag are.1 y.shows)

  -- the name that isn't there
  pub absent_ends : EndsAlike (path_walk (codes "missing" ∷ []) d).end (lookup_path (codes "missing" ∷ []) d)
      → (traversal (absent_query (root_cid d)) d).end ≡ stopped (walks.not_there 0)
  absent_ends alike =
      let none = missing_at tree d (codes "missing") is.is_folder.sort shows (child_is (codes "missing") None refl) 0 [] in
      let end = end_is (path_walk (codes "missing" ∷ []) d).end (subst (EndsAlike (path_walk (codes "missing" ∷ []) d).end) none alike) in
      ap (λ (e : PathEnd). (from_end e scopes.Entity None (length (path_walk (codes "missing" ∷ []) d).sections + 1)).end) end
    where
      end_is : (end : PathEnd) → EndsAlike end (lookups.not_there 0) → end ≡ not_reached (walks.not_there 0)
      end_is (terminal t) h = absurd h
      end_is (not_reached (walks.not_there i)) h = ap (λ (n : ℕ). not_reached (walks.not_there n)) h
      end_is (not_reached (walks.not_folder i)) h = absurd h
      end_is (not_reached (walks.gone spot)) h = absurd h
      end_is (not_reached (walks.bad_block spot fault)) h = absurd h

  module _ (size : length drawn.big ≡ 10485760) (some : 0 < length drawn.many)
      (bundled : (text : List ℕ) → IsBundle drawn text → answer (bundle_query (root_cid d)) d ≡ Some text)
      (listed : answer (listing_query (root_cid d)) d ≡ Some (listing (named_from 0 drawn.many))) where
    from_size : (n : ℕ) → n < 10485760 → n < length drawn.big
    from_size n h = subst (λ (l : ℕ). n < l) (sym size) h

    all_answers : (texts : List (List ℕ)) → AreTexts drawn texts → AreAnswersOf d (answer_queries (root_cid d)) texts
    all_answers texts t = subst (AreAnswersOf d (answer_queries (root_cid d))) (sym t.are) (
      bundled t.bundle t.bundle_is,
      (
        file_answer (codes "big") is.big drawn.big (Some (record { from = froms.Start 1048575; to = Some 1048576 })) true (child_is (codes "big") (Some is.big) refl) is.big_is
            ∙ ap Some (slice_part 1048575 1048576 drawn.big (from_size 1048576 (lit< tt))),
        (
          file_answer (codes "big") is.big drawn.big (Some (record { from = froms.Last 5; to = None })) true (child_is (codes "big") (Some is.big) refl) is.big_is
              ∙ ap Some (slice_last 5 drawn.big),
          (
            file_answer (codes "big") is.big drawn.big (Some (record { from = froms.Start 20000000; to = None })) true (child_is (codes "big") (Some is.big) refl) is.big_is
                ∙ ap Some (slice_behind 20000000 drawn.big (omega (arith, size))),
            (
              listed,
              (
                file_answer (codes "none") is.none [] None true (child_is (codes "none") (Some is.none) refl) is.none_is,
                (empty_answer, (first_answer drawn.many is.files some is.files_are is.many_is, refl)),
              ),
            ),
          ),
        ),
      ),
    )

    pub drawn_answers : (texts : List (List ℕ)) (expected : List Hashed) → AreTexts drawn texts → AreHashed texts expected → AnswersAs d (answer_queries (root_cid d)) expected
    drawn_answers texts expected t h = answers_as d (answer_queries (root_cid d)) texts expected (all_answers texts t) h
