-- Why a query of an audit is refused, or has another answer than the expected one.
use Rattle.std.proofs.Common.{All, Bool, Contains, List, None, Option, Some, [], ap, arith, false, inl, inr, length, lit<, lit≤, ltb-true, refl, subst, sym, true, ℕ, ◌++◌, ◌<◌, ◌∙◌, ◌∷◌, ◌≡◌, ◌≤◌}
use Rattle.std.proofs.lemmas.Bool.Decides.{nat_tests}
use Rattle.std.proofs.lemmas.List.Elements.{All-cons, All-contains, All-contains_itself, All-from_recursion, All-nil, Contains-append_left, Contains-append_right, Contains-push}
use Rattle.std.specs.Bool.{Decides}
use Rattle.std.specs.List.{AllByRecursion, list_all}
use Rattle.std.specs.Prelude.{IfSome, codes, nat_lt, ◌≢◌, ◌&&◌}
use Rattle.tg_audit.proofs.Addrs.{audit_addr_is}
use Rattle.tg_audit.proofs.BlockSizes.{BlockLaws}
use Rattle.tg_audit.proofs.ImportCauses.{import_causes}
use Rattle.tg_audit.proofs.OwnQueries.{sent_of_dag}
use Rattle.tg_audit.proofs.WithinLimits.{WithinLaws}
use Rattle.tg_audit.proofs.WithinQueries.{few_shards, within_shards}
use Rattle.tg_audit.proofs.PackCauses.{Everything, NoneCaused, few_blocks, no_pack_cause}
use Rattle.tg_audit.specs.Asking.{audit_addr}
use Rattle.tg_audit.specs.Audits.{AreAnswered, IsDeniedAs, IsUnabsent, IsUnexpected, StopsAt, not_there}
use Rattle.tg_audit.proofs.DrawnAnswers.{AnswersAs, absent_ends, bundle_query, drawn_answers}
use Rattle.tg_audit.proofs.ExpectedTexts.{bundle_is, listing_is}
use Rattle.tg_audit.proofs.FileSizes.{IsAt}
use Rattle.tg_audit.proofs.FileTexts.{short_at}
use Rattle.tg_audit.proofs.LightFolders.{imported_at}
use Rattle.tg_audit.specs.Complete.{HasDenialCause, IsAuditTree}
use Rattle.tg_audit.specs.Shards.{HasFewShards, HasManyShards}
use Rattle.tg_audit.specs.Denials.{DenialsHaveCauses}
use Rattle.tg_audit.specs.Holding.{AttachedHolds, CollidesOrNot, HoldsSpelled}
use Rattle.tg_audit.specs.Own.{IsMissOrMemory, IsOwnQuery, OwnIsAnswered, OwnIsRefused}
use Rattle.tg_audit.specs.Packing.{CauseIn, HoldsImported, IsPackedOf}
use Rattle.tg_audit.specs.declared.fault.AuditFault.{AuditFault}
use Rattle.tg_audit.specs.declared.fault.AuditFault.TheVariants as audits
use Rattle.tg_audit.specs.declared.packing.Packed.{Packed}
use Rattle.tg_audit_texts.specs.Hashing.{IsHashOf}
use Rattle.tg_audit_texts.specs.Queries.{absent_query, answer_queries}
use Rattle.tg_audit_texts.specs.declared.hashing.Hashed.{Hashed}
use Rattle.tg_cid.specs.Cid.{CidParts}
use Rattle.tg_cid.specs.Laws.{OneSpelling}
use Rattle.tg_cid.specs.Spelling.{CidBytes}
use Rattle.tg_fetch.specs.declared.fault.FetchFault.{FetchFault}
use Rattle.tg_fetch.specs.declared.fault.FetchFault.TheVariants as fetches
use Rattle.tg_heard.specs.Exchanges.{HasOneBlockEach, IsWithin}
use Rattle.tg_model.specs.Answer.{answer}
use Rattle.tg_model.specs.Computed.{is_good_name}
use Rattle.tg_model.specs.Dag.{Dag, IsWhole, Section, bare, blocks, blocks_of_children, node, root_cid, unopened}
use Rattle.tg_model.specs.EntryNames.{IsGoodName}
use Rattle.tg_model.specs.ImportLayout.{HasPlainCid}
use Rattle.tg_model.specs.LimitNumbers.{standard}
use Rattle.tg_model.specs.Queries.{IsSpan, QueryParts}
use Rattle.tg_model.specs.ShowsTree.{Shows}
use Rattle.tg_model.specs.Stores.{Store}
use Rattle.tg_model.specs.Ends.{EndsAlike}
use Rattle.tg_model.specs.Lookup.{lookup_path}
use Rattle.tg_model.specs.PathWalk.{path_walk, stopped}
use Rattle.tg_model.specs.PathWalk as walks
use Rattle.tg_model.specs.Sound.{IsSound, top}
use Rattle.tg_model.specs.Traversal.{block_list, traversal}
use Rattle.tg_model.specs.declared.queries.Form.TheVariants as forms
use Rattle.tg_model.specs.declared.queries.Scope.TheVariants as scopes
use Rattle.tg_model_laws.specs.FileSizes.{TotalIsLength}
use Rattle.tg_model_laws.specs.Tasks.{no_entry}
use Rattle.tg_reply.specs.Bodies.{IsSpelled}
use Rattle.tg_store.specs.AttachedPacks.{IsAttachedIn}
use Rattle.tg_store.specs.Attaching.{IsAttached}
use Rattle.tg_store.specs.declared.fault.PackFault.{PackFault}
use Rattle.tg_tree.specs.declared.tree.Tree.{Tree}
use Rattle.tg_varint.specs.Laws.{SpellingLaws}
use Rattle.tg_verify.specs.declared.fault.Refusal.TheVariants as refusals

-- ---- the queries are well formed

abbrev GoodNames : Type 0
GoodNames = (name : List ℕ) → Decides (is_good_name name) (IsGoodName name)

both : (a b : Bool) → a && b ≡ true → (a ≡ true) × (b ≡ true)
both true true h = (refl, refl)
both true false h = absurd (cc h)
both false b h = absurd (cc h)

good_path : GoodNames → (path : List (List ℕ)) → list_all is_good_name path ≡ true → All IsGoodName path
good_path tests [] h = All-nil IsGoodName
good_path tests (name ∷ path) h =
    let two = both (is_good_name name) (list_all is_good_name path) h in
    All-cons IsGoodName name path ((tests name).0 two.0) (good_path tests path two.1)

abbrev is_byte : ℕ → Bool
is_byte b = nat_lt b 256

byte_name : (name : List ℕ) → list_all is_byte name ≡ true → All (λ b. b < 256) name
byte_name [] h = All-nil (λ b. b < 256)
byte_name (b ∷ name) h =
    let two = both (is_byte b) (list_all is_byte name) h in
    All-cons (λ b. b < 256) b name (ltb-true b 256 two.0) (byte_name name two.1)

byte_path : (path : List (List ℕ)) → list_all (λ name. list_all is_byte name) path ≡ true → All (λ name. All (λ b. b < 256) name) path
byte_path [] h = All-nil (λ name. All (λ b. b < 256) name)
byte_path (name ∷ path) h =
    let two = both (list_all is_byte name) (list_all (λ n. list_all is_byte n) path) h in
    All-cons (λ name. All (λ b. b < 256) name) name path (byte_name name two.0) (byte_path path two.1)

-- what is asked below a root is asked so of any
pub record IsGoodQuery (root : CidParts) (q : QueryParts) : Type 0 where
  pub root_is : q.root ≡ root
  pub car : q.form ≡ forms.Car
  pub few : length q.path ≤ 128
  pub good : list_all is_good_name q.path ≡ true
  pub are_bytes : list_all (λ name. list_all is_byte name) q.path ≡ true
  pub span : IfSome q.span (λ span. (q.scope ≡ scopes.Entity) × IsSpan span)

plain_query : (root : CidParts) (q : QueryParts) → q.root ≡ root → q.form ≡ forms.Car → length q.path ≤ 128 → list_all is_good_name q.path ≡ true
    → list_all (λ name. list_all is_byte name) q.path ≡ true → IfSome q.span (λ span. (q.scope ≡ scopes.Entity) × IsSpan span) → IsGoodQuery root q
plain_query root q a b c d e f = record { root_is = a; car = b; few = c; good = d; are_bytes = e; span = f }

good_queries : (root : CidParts) → All (IsGoodQuery root) (answer_queries root ++ absent_query root ∷ [])
good_queries root = all
  where
    nine : AllByRecursion (IsGoodQuery root) (answer_queries root ++ absent_query root ∷ [])
    nine = (
      plain_query root _ refl refl (lit≤ tt) refl refl tt,
      (
        plain_query root _ refl refl (lit≤ tt) refl refl (refl, record { from = lit< tt; to = (lit< tt, lit≤ tt) }),
        (
          plain_query root _ refl refl (lit≤ tt) refl refl (refl, record { from = lit< tt; to = tt }),
          (
            plain_query root _ refl refl (lit≤ tt) refl refl (refl, record { from = lit< tt; to = tt }),
            (
              plain_query root _ refl refl (lit≤ tt) refl refl tt,
              (
                plain_query root _ refl refl (lit≤ tt) refl refl tt,
                (
                  plain_query root _ refl refl (lit≤ tt) refl refl tt,
                  (
                    plain_query root _ refl refl (lit≤ tt) refl refl tt,
                    (plain_query root _ refl refl (lit≤ tt) refl refl tt, tt),
                  ),
                ),
              ),
            ),
          ),
        ),
      ),
    )

    all : All (IsGoodQuery root) (answer_queries root ++ absent_query root ∷ [])
    all = All-from_recursion (IsGoodQuery root) (answer_queries root ++ absent_query root ∷ []) nine

-- all nine queries of a DAG are within the limits
abbrev AreWithinLimits : Dag → Type 0
AreWithinLimits d = All (λ q. IsWithin q standard d) (answer_queries (root_cid d) ++ absent_query (root_cid d) ∷ [])

-- ---- over the attached store

-- the root's block is one of a whole DAG
root_section : (d : Dag) → IsWhole d → (x : Section) × Contains (blocks d) x × (x.cid ≡ root_cid d)
root_section (unopened cid) w = absurd w
root_section (bare section fault) w = absurd w
root_section (node section kind children) w =
    (section, Contains-append_left (section ∷ []) (blocks_of_children children) section (Contains-push [] section), refl)

module _ (answered : OwnIsAnswered) (refused : OwnIsRefused) (tests : GoodNames) (d : Dag) (store : Store) (tree : Tree) (content : List ℕ)
    (holds : HoldsImported tree d content) (held : HoldsSpelled store d) where
  own_query : (q : QueryParts) → IsGoodQuery (root_cid d) q → IsWithin q standard d → IsOwnQuery store q d
  own_query q good within =
      let (x, among, cid) = root_section d holds.imported.sound.whole in
      let plain = All-contains HasPlainCid (blocks d) x holds.imported.plain among in
      let spelled = All-contains IsSpelled (blocks d) x held.spelled among in
      let root : x.cid ≡ q.root = cid ∙ sym good.root_is in
      record {
        sound = holds.imported.sound;
        root = sym good.root_is;
        holds = held.holds;
        spelled = λ k other less. All-contains IsSpelled (blocks d) _ held.spelled (sent_of_dag q d _ (All-contains_itself (block_list q d) k other less));
        within = within;
        printable = record {
          well_formed = record {
            few = good.few;
            good = good_path tests q.path good.good;
            raw = λ raw. absurd (let no : forms.Car ≡ forms.Raw = sym good.car ∙ raw in cc no);
            span = good.span;
          };
          version = subst (λ (c : CidParts). c.version ≡ 1) root plain.0;
          root_bytes = spelled.name;
          root = subst (λ (c : CidParts). CidBytes c spelled.name) root spelled.name_is;
          names = byte_path q.path good.are_bytes;
          addr_is = audit_addr_is;
          fits = within.request audit_addr audit_addr_is;
        };
      }

  -- one text has one hash
  one_hash : (text : List ℕ) (a b : Hashed) → IsHashOf text a → IsHashOf text b → a ≡ b
  one_hash text a b h k = λ i. record { size = (h.size ∙ sym k.size) i; digest = (h.digest ∙ sym k.digest) i }

  -- the expected answer of a query behind those that were answered
  expected_at : (before : List QueryParts) (q : QueryParts) (behind : List QueryParts) (hashes : List Hashed) (one : Hashed) (more : List Hashed)
      → AreAnswered (Some store) before hashes → AnswersAs d (before ++ q ∷ behind) (hashes ++ one ∷ more) → (text : List ℕ) × (answer q d ≡ Some text) × IsHashOf text one
  expected_at [] q behind [] one more done h = h.0
  expected_at [] q behind (x ∷ hashes) one more done h = absurd (let no : x ∷ hashes ≡ [] = done in cc no)
  expected_at (p ∷ before) q behind [] one more done h = absurd done
  expected_at (p ∷ before) q behind (x ∷ hashes) one more done h = expected_at before q behind hashes one more done.1 h.1

  -- a query whose answer is the DAG's has the expected one
  as_expected : (q : QueryParts) (one : Hashed) (number : ℕ) (text : List ℕ) (fault : AuditFault) → IsOwnQuery store q d → answer q d ≡ Some text → IsHashOf text one
      → IsUnexpected (Some store) q one number fault → fault ≡ audits.OutOfMemory
  as_expected q one number text (audits.Differs at) own is hash (same, (other, by, differ)) =
      absurd (differ (one_hash text other one ((answered store q d text own is).answered other by) hash))
  as_expected q one number text (audits.Import fault) own is hash un = (answered store q d text own is).unanswered (audits.Import fault) un
  as_expected q one number text (audits.Pack fault) own is hash un = (answered store q d text own is).unanswered (audits.Pack fault) un
  as_expected q one number text (audits.Client fault) own is hash un = (answered store q d text own is).unanswered (audits.Client fault) un
  as_expected q one number text (audits.Limit most) own is hash un = (answered store q d text own is).unanswered (audits.Limit most) un
  as_expected q one number text audits.SinkFault own is hash un = (answered store q d text own is).unanswered audits.SinkFault un
  as_expected q one number text audits.OutOfMemory own is hash un = refl

  is_not_there : (fault : FetchFault) → IsMissOrMemory (no_entry 0) (audits.Client fault) → fault ≡ not_there
  is_not_there (fetches.Refused (refusals.NotThere segment)) h = ap (λ (i : ℕ). fetches.Refused (refusals.NotThere i)) h
  is_not_there _ h = absurd h

  module _ (expected : List Hashed) (within : AreWithinLimits d)
      (answers : AnswersAs d (answer_queries (root_cid d)) expected) (absent : (traversal (absent_query (root_cid d)) d).end ≡ stopped (walks.not_there 0)) where
    abbrev all_queries : List QueryParts
    all_queries = answer_queries (root_cid d) ++ absent_query (root_cid d) ∷ []

    own_of : (q : QueryParts) → Contains all_queries q → IsOwnQuery store q d
    own_of q among =
        own_query q (All-contains (IsGoodQuery (root_cid d)) all_queries q (good_queries (root_cid d)) among)
        (All-contains (λ p. IsWithin p standard d) all_queries q within among)

    stops_not : (fault : AuditFault) → StopsAt (Some store) (answer_queries (root_cid d)) expected fault → fault ≡ audits.OutOfMemory
    stops_not fault s =
        let at = expected_at s.before s.q s.behind s.hashes s.one s.more s.answered
        (subst (λ (l : List QueryParts). AnswersAs d l (s.hashes ++ s.one ∷ s.more)) s.queries_are (subst (AnswersAs d (answer_queries (root_cid d))) s.expected_are answers)) in
        let among : Contains (answer_queries (root_cid d)) s.q =
        subst (λ (l : List QueryParts). Contains l s.q) (sym s.queries_are)
        (Contains-append_right s.before (s.q ∷ s.behind) s.q (Contains-append_left (s.q ∷ []) s.behind s.q (Contains-push [] s.q))) in
        as_expected s.q s.one _ at.0 fault (own_of s.q (Contains-append_left (answer_queries (root_cid d)) (absent_query (root_cid d) ∷ []) s.q among)) at.1 at.2 s.unexpected

    absent_own : IsOwnQuery store (absent_query (root_cid d)) d
    absent_own =
        own_of (absent_query (root_cid d))
        (Contains-append_right (answer_queries (root_cid d)) (absent_query (root_cid d) ∷ []) (absent_query (root_cid d)) (Contains-push [] (absent_query (root_cid d))))

    absent_is : (fault : AuditFault) → IsUnabsent (Some store) (absent_query (root_cid d)) fault → fault ≡ audits.OutOfMemory
    absent_is (audits.Differs at) (same, (hashed, by)) =
        absurd ((refused store (absent_query (root_cid d)) d (no_entry 0) absent_own refl absent).unanswered hashed by)
    absent_is (audits.Client fault) (by, other) =
        absurd (other (is_not_there fault ((refused store (absent_query (root_cid d)) d (no_entry 0) absent_own refl absent).refused (audits.Client fault) by)))
    absent_is (audits.Limit most) un = absurd ((refused store (absent_query (root_cid d)) d (no_entry 0) absent_own refl absent).refused (audits.Limit most) un)
    absent_is (audits.Import fault) un = absurd un
    absent_is (audits.Pack fault) un = absurd un
    absent_is audits.SinkFault un = absurd un
    absent_is audits.OutOfMemory un = refl

-- ---- an audit

-- the attached store is told where the pack's content is
told_store : (held : Option (List ℕ)) (told : Option Store) (content : List ℕ) → held ≡ Some content → IsAttachedIn held told → (store : Store) × (told ≡ Some store) × IsAttached content store
told_store None told content e attached = absurd (cc e)
told_store (Some bytes) None content e attached = absurd attached
told_store (Some bytes) (Some store) content e attached =
    let same : bytes ≡ content = cc e in (store, refl, subst (λ (l : List ℕ). IsAttached l store) same attached)

-- what isn't so where one block stands under each CID and all queries are within the limits has a cause
module _ (collides : CollidesOrNot) (laws : WithinLaws) (seed files : ℕ) (tree : Tree) (expected : List Hashed) (drawn : IsAuditTree seed files tree expected) (packed : Packed)
    (packed_is : IsPackedOf tree packed) (some : 0 < files) (few : files ≤ 1000000) (no : HasOneBlockEach packed_is.d → AreWithinLimits packed_is.d → ⊥) where
  no_few : HasOneBlockEach packed_is.d → HasFewShards packed_is.d → ⊥
  no_few one shards = no one
      (within_shards laws seed files drawn.drawn tree packed_is.content packed_is.d some few drawn.drawn_is drawn.tree_is packed_is.holds one shards)

  many : HasOneBlockEach packed_is.d → HasManyShards files packed_is.d
  many one = by (nat_lt 393113 files) refl
    where
      by : (b : Bool) → nat_lt 393113 files ≡ b → HasManyShards files packed_is.d
      by true e = record { shards = no_few one; more = ltb-true 393113 files e }
      by false e = absurd (no_few one
          (few_shards laws seed files drawn.drawn tree packed_is.content packed_is.d (grind (arith, nat_tests, e)) drawn.drawn_is drawn.tree_is packed_is.holds))

  caused : HasDenialCause seed files
  caused = record {
    d = packed_is.d;
    expected = expected;
    dag = record { tree = tree; drawn = drawn; content = packed_is.content; holds = packed_is.holds };
    cause = elim (collides packed_is.d packed_is.holds.imported.sound packed_is.holds.imported.plain) [
      | inl two ↦ inl two
      | inr one ↦ inr (many one)
    ];
  }

module _ (answered : OwnIsAnswered) (refused : OwnIsRefused) (collides : CollidesOrNot) (attached_holds : AttachedHolds) (tests : GoodNames)
    (alike : (d : Dag) (path : List (List ℕ)) → IsSound d → EndsAlike (path_walk path d).end (lookup_path path d)) (sizes : TotalIsLength)
    (within : WithinLaws) where
  module _ (seed files : ℕ) (tree : Tree) (expected : List Hashed) (drawn : IsAuditTree seed files tree expected) (packed : Packed) (packed_is : IsPackedOf tree packed)
      (fault : AuditFault) (some : 0 < files) (few : files ≤ 1000000) (not_memory : fault ≢ audits.OutOfMemory) (denied : IsDeniedAs packed expected fault) where
    imported_shows : Shows packed_is.d tree
    imported_shows = packed_is.holds.imported.shows

    imported_stands : IsAt top packed_is.d
    imported_stands = imported_at tree [] packed_is.d packed_is.holds.imported

    answers : AnswersAs packed_is.d (answer_queries (root_cid packed_is.d)) expected
    answers =
        let many : 0 < length drawn.drawn.many = subst (λ (n : ℕ). 0 < n) (sym drawn.drawn_is.many.count_is) some in
        let most : length drawn.drawn.many ≤ 1000000 = subst (λ (n : ℕ). n ≤ 1000000) (sym drawn.drawn_is.many.count_is) few in
        let short = short_at drawn.drawn_is.between drawn.drawn.many drawn.drawn_is.behind drawn.drawn_is.many.drawn in
        drawn_answers drawn.drawn tree drawn.tree_is packed_is.d imported_shows packed_is.holds.imported.laid drawn.drawn_is.big.count_is many
        (bundle_is sizes drawn.drawn tree drawn.tree_is packed_is.d imported_shows imported_stands most short)
        (listing_is sizes drawn.drawn tree drawn.tree_is packed_is.d imported_shows imported_stands most short)
        drawn.expected_are.texts expected drawn.expected_are.texts_are drawn.expected_are.hashed_are

    absent : (traversal (absent_query (root_cid packed_is.d)) packed_is.d).end ≡ stopped (walks.not_there 0)
    absent =
        absent_ends drawn.drawn tree drawn.tree_is packed_is.d imported_shows packed_is.holds.imported.laid
        (alike packed_is.d (codes "missing" ∷ []) packed_is.holds.imported.sound)

    no_cause : HasOneBlockEach packed_is.d → AreWithinLimits packed_is.d → ⊥
    no_cause one ok =
        let (store, told_is, attached) = told_store packed.pack.content denied.told packed_is.content packed_is.told denied.attached in
        let held = attached_holds tree packed_is.d packed_is.content store packed_is.holds attached one in
        elim denied.cause [
          | inl stops ↦ not_memory
              (stops_not answered refused tests packed_is.d store tree packed_is.content packed_is.holds held expected ok answers absent fault
              (subst (λ (root : CidParts). StopsAt (Some store) (answer_queries root) expected fault) packed_is.root
              (subst (λ (t : Option Store). StopsAt t (answer_queries packed.root) expected fault) told_is stops)))
          | inr un ↦ not_memory
              (absent_is answered refused tests packed_is.d store tree packed_is.content packed_is.holds held expected ok answers absent fault
              (subst (λ (root : CidParts). IsUnabsent (Some store) (absent_query root) fault) packed_is.root
              (subst (λ (t : Option Store). IsUnabsent t (absent_query packed.root) fault) told_is un.1)))
        ]

    cause_of : HasDenialCause seed files
    cause_of = caused collides within seed files tree expected drawn packed packed_is some few no_cause

  -- a pack that isn't attached
  module _ (none : NoneCaused) (spellings : SpellingLaws) (cids : OneSpelling) (everything : Everything) (seed files : ℕ) (tree : Tree) (expected : List Hashed)
      (drawn : IsAuditTree seed files tree expected) (packed : Packed) (packed_is : IsPackedOf tree packed) (fault : PackFault) (some : 0 < files) (few : files ≤ 1000000)
      (cause : CauseIn packed.pack.content (audits.Pack fault)) where
    not_within : AreWithinLimits packed_is.d → ⊥
    not_within ok =
        let d = packed_is.d in
        let holds = packed_is.holds in
        let first : IsWithin (bundle_query (root_cid d)) standard d = ok 0 (bundle_query (root_cid d)) (lit< tt) in
        let small = few_blocks everything d holds.imported.sound holds.imported.plain first.counts_are.block in
        no_pack_cause none spellings cids tree drawn.tree_is.is_folder.sort d packed_is.content holds small fault
        (subst (λ (told : Option (List ℕ)). CauseIn told (audits.Pack fault)) packed_is.told cause)

    pack_cause : HasDenialCause seed files
    pack_cause = caused collides within seed files tree expected drawn packed packed_is some few (λ one. not_within)

  pub denials : BlockLaws → NoneCaused → SpellingLaws → OneSpelling → Everything → DenialsHaveCauses
  denials blocks none spellings cids everything seed files (audits.Client fault) some few h =
      cause_of seed files h.tree h.expected h.drawn h.packed h.packed_is (audits.Client fault) some few (λ e. cc e) h.is_so
  denials blocks none spellings cids everything seed files (audits.Limit number) some few h =
      cause_of seed files h.tree h.expected h.drawn h.packed h.packed_is (audits.Limit number) some few (λ e. cc e) h.is_so
  denials blocks none spellings cids everything seed files (audits.Differs query) some few h =
      cause_of seed files h.tree h.expected h.drawn h.packed h.packed_is (audits.Differs query) some few (λ e. cc e) h.is_so
  denials blocks none spellings cids everything seed files (audits.Import fault) some few h =
      import_causes blocks tests seed files h.drawn.drawn h.tree fault few h.drawn.drawn_is h.drawn.tree_is h.cause
  denials blocks none spellings cids everything seed files (audits.Pack fault) some few h =
      pack_cause none spellings cids everything seed files h.tree h.expected h.drawn h.packed h.packed_is fault some few h.is_so
  denials blocks none spellings cids everything seed files audits.SinkFault some few h = tt
  denials blocks none spellings cids everything seed files audits.OutOfMemory some few h = tt
