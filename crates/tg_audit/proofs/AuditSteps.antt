-- Answers beside those that are expected.
use Rattle.std.proofs.Common.{Err, List, MatchResult, Ok, Option, Result, [], ap, arith, drop, get_or, inl, inr, length, refl, subst, sym, take, ℕ, ◌+◌, ◌++◌, ◌<◌, ◌∙◌, ◌∷◌, ◌≡◌}
use Rattle.std.proofs.lemmas.List.{drop_more, length-take, take-append-drop, take_more}
use Rattle.tg_audit.specs.Asking.{IsAnsweredBy, IsUnanswered}
use Rattle.tg_audit.specs.Complete.{HasCauseIfDenied, IsAuditTree}
use Rattle.tg_audit.specs.Audits.{AreAnswered, AuditEnds, IsAnsweredAs, IsAudited, IsImportedSo, IsUnabsent, IsUnansweredAs, IsUnaudited, IsUnexpected, StopsAt}
use Rattle.tg_audit.specs.Packing.{IsPackedOf, IsUnattached}
use Rattle.tg_tree.specs.declared.tree.Tree.{Tree}
use Rattle.tg_audit.specs.declared.fault.AuditFault.{AuditFault}
use Rattle.tg_audit.specs.declared.fault.AuditFault.TheVariants as audits
use Rattle.tg_audit.specs.declared.packing.Packed.{Packed}
use Rattle.tg_audit_texts.specs.Expected.{AreExpected, AreHashed}
use Rattle.tg_audit_texts.specs.Queries.{answer_queries, absent_query}
use Rattle.tg_audit_texts.specs.declared.hashing.Hashed.{Hashed}
use Rattle.tg_draws.specs.declared.drawing.Drawn.{Drawn}
use Rattle.tg_model.specs.Queries.{QueryParts}
use Rattle.tg_model.specs.Stores.{Store}
use Rattle.tg_store.specs.AttachedPacks.{IsAttachedIn}
use Rattle.tg_streams.specs.Streams.{Output, OutputQuiet, Unput}

-- ---- one query

-- a query without an answer has not the expected one
pub unexpected : (told : Option Store) (q : QueryParts) (one : Hashed) (number : ℕ) (fault : AuditFault) → IsUnanswered told q fault → IsUnexpected told q one number fault
unexpected told q one number (audits.Import fault) h = h
unexpected told q one number (audits.Pack fault) h = h
unexpected told q one number (audits.Client fault) h = h
unexpected told q one number (audits.Limit most) h = h
unexpected told q one number (audits.Differs at) h = absurd h
unexpected told q one number audits.SinkFault h = h
unexpected told q one number audits.OutOfMemory h = h

-- ---- one after another

pub answered_then : (told : Option Store) (queries : List QueryParts) (expected : List Hashed) (q : QueryParts) (one : Hashed) → AreAnswered told queries expected → IsAnsweredBy told q one
    → AreAnswered told (queries ++ q ∷ []) (expected ++ one ∷ [])
answered_then told [] [] q one h is = (is, refl)
answered_then told [] (x ∷ expected) q one h is = let no : x ∷ expected ≡ [] = h in cc
answered_then told (p ∷ queries) [] q one h is = absurd h
answered_then told (p ∷ queries) (x ∷ expected) q one h is = (h.0, answered_then told queries expected q one h.1 is)

-- the next of the queries, with what is expected of it
pub answered_more : (told : Option Store) (queries : List QueryParts) (expected : List Hashed) (i : ℕ) (q : QueryParts) (one : Hashed) → i < length queries → i < length expected
    → AreAnswered told (take i queries) (take i expected) → IsAnsweredBy told (get_or queries i q) (get_or expected i one)
    → AreAnswered told (take (i + 1) queries) (take (i + 1) expected)
answered_more told queries expected i q one in_queries in_expected h is =
    subst (λ (l : List QueryParts). AreAnswered told l (take (i + 1) expected)) (sym (take_more queries i q in_queries))
    (subst (λ (l : List Hashed). AreAnswered told (take i queries ++ get_or queries i q ∷ []) l) (sym (take_more expected i one in_expected))
    (answered_then told (take i queries) (take i expected) (get_or queries i q) (get_or expected i one) h is))

split_at : {T : Type 0} (l : List T) (i : ℕ) (x : T) → i < length l → l ≡ take i l ++ get_or l i x ∷ drop (i + 1) l
split_at l i x inside = sym (take-append-drop i l) ∙ ap (λ (rest : List _). take i l ++ rest) (drop_more l i x inside)

-- it isn't answered so
pub stops_at : (told : Option Store) (queries : List QueryParts) (expected : List Hashed) (i : ℕ) (q : QueryParts) (one : Hashed) (fault : AuditFault) → i < length queries → i < length expected
    → AreAnswered told (take i queries) (take i expected) → IsUnexpected told (get_or queries i q) (get_or expected i one) (i + 1) fault → StopsAt told queries expected fault
stops_at told queries expected i q one fault in_queries in_expected h un =
    let count : length (take i queries) ≡ i = omega (arith, length-take i queries) in
    record {
      before = take i queries;
      q = get_or queries i q;
      behind = drop (i + 1) queries;
      queries_are = split_at queries i q in_queries;
      hashes = take i expected;
      one = get_or expected i one;
      more = drop (i + 1) expected;
      expected_are = split_at expected i one in_expected;
      answered = h;
      unexpected = subst (λ (n : ℕ). IsUnexpected told (get_or queries i q) (get_or expected i one) (n + 1) fault) (sym count) un;
    }

-- ---- eight are expected

hashed_count : (texts : List (List ℕ)) (hashed : List Hashed) → AreHashed texts hashed → length hashed ≡ length texts
hashed_count [] hashed h = ap (λ (l : List Hashed). length l) h
hashed_count (text ∷ texts) [] h = absurd h
hashed_count (text ∷ texts) (one ∷ hashed) h = let same : length hashed ≡ length texts = hashed_count texts hashed h.1 in cc

pub eight : (drawn : Drawn) (hashed : List Hashed) → AreExpected drawn hashed → length hashed ≡ 8
eight drawn hashed h = hashed_count h.texts hashed h.hashed_are ∙ ap (λ (l : List (List ℕ)). length l) h.texts_are.are

-- ---- all of them

-- what holds of a store and a query holds of what they are
pub moved : (holds : Option Store → QueryParts → Type 0) (a b : Option Store) (p q : QueryParts) → a ≡ b → p ≡ q → holds a p → holds b q
moved holds a b p q same is h = subst (λ (t : Option Store). holds t q) same (subst (λ (x : QueryParts). holds a x) is h)

-- why there is no text
pub denied : (packed : Packed) (expected : List Hashed) (told : Option Store) (fault : AuditFault) → IsAttachedIn packed.pack.content told → StopsAt told (answer_queries packed.root) expected fault
    → IsUnansweredAs packed expected fault
denied packed expected told (audits.Import fault) attached stops = absurd stops.unexpected
denied packed expected told (audits.Pack fault) attached stops = absurd stops.unexpected
denied packed expected told (audits.Client fault) attached stops = record { told = told; attached = attached; cause = inl stops }
denied packed expected told (audits.Limit most) attached stops = record { told = told; attached = attached; cause = inl stops }
denied packed expected told (audits.Differs at) attached stops = record { told = told; attached = attached; cause = inl stops }
denied packed expected told audits.SinkFault attached stops = absurd stops.unexpected
denied packed expected told audits.OutOfMemory attached stops = tt

pub unabsent_as : (packed : Packed) (expected : List Hashed) (told : Option Store) (fault : AuditFault) → IsAttachedIn packed.pack.content told → AreAnswered told (answer_queries packed.root) expected
    → IsUnabsent told (absent_query packed.root) fault → IsUnansweredAs packed expected fault
unabsent_as packed expected told (audits.Import fault) attached h un = absurd un
unabsent_as packed expected told (audits.Pack fault) attached h un = absurd un
unabsent_as packed expected told (audits.Client fault) attached h un = record { told = told; attached = attached; cause = inr (h, un) }
unabsent_as packed expected told (audits.Limit most) attached h un = record { told = told; attached = attached; cause = inr (h, un) }
unabsent_as packed expected told (audits.Differs at) attached h un = record { told = told; attached = attached; cause = inr (h, un) }
unabsent_as packed expected told audits.SinkFault attached h un = absurd un
unabsent_as packed expected told audits.OutOfMemory attached h un = tt

-- the pack can't be attached
pub unattached_as : (packed : Packed) (expected : List Hashed) (fault : AuditFault) → IsUnattached packed.pack fault → IsUnansweredAs packed expected fault
unattached_as packed expected (audits.Import fault) h = absurd h
unattached_as packed expected (audits.Pack fault) h = h
unattached_as packed expected (audits.Client fault) h = absurd h
unattached_as packed expected (audits.Limit most) h = absurd h
unattached_as packed expected (audits.Differs at) h = absurd h
unattached_as packed expected audits.SinkFault h = absurd h
unattached_as packed expected audits.OutOfMemory h = tt

-- ---- of the folder that was drawn

module _ (seed files : ℕ) (tree : Tree) (expected : List Hashed) (drawn : IsAuditTree seed files tree expected) (packed : Packed) (packed_is : IsPackedOf tree packed) where
  imported_so : (holds : Packed → List Hashed → Type 0) → holds packed expected → IsImportedSo seed files holds
  imported_so holds is_so = record { tree = tree; expected = expected; drawn = drawn; packed = packed; packed_is = packed_is; is_so = is_so }

  unaudited_as : (fault : AuditFault) → IsUnansweredAs packed expected fault → IsUnaudited seed files fault
  unaudited_as (audits.Import fault) h = absurd h
  unaudited_as (audits.Pack fault) h = imported_so (λ p e. IsUnansweredAs p e (audits.Pack fault)) h
  unaudited_as (audits.Client fault) h = imported_so (λ p e. IsUnansweredAs p e (audits.Client fault)) h
  unaudited_as (audits.Limit most) h = imported_so (λ p e. IsUnansweredAs p e (audits.Limit most)) h
  unaudited_as (audits.Differs at) h = imported_so (λ p e. IsUnansweredAs p e (audits.Differs at)) h
  unaudited_as audits.SinkFault h = absurd h
  unaudited_as audits.OutOfMemory h = tt

  pub audited_as : (result : Result (List ℕ) AuditFault) → MatchResult result (IsAnsweredAs packed expected) (IsUnansweredAs packed expected)
      → MatchResult result (IsAudited seed files) (IsUnaudited seed files)
  audited_as (Ok text) h = imported_so (λ p e. IsAnsweredAs p e text) h
  audited_as (Err fault) h = unaudited_as fault h

-- ---- how it ends

-- with nothing put
pub unaudited_ends : (seed files : ℕ) (out : Output) (fault : AuditFault) → IsUnaudited seed files fault → HasCauseIfDenied seed files fault → Unput out → OutputQuiet out
    → AuditEnds seed files out (Err fault)
unaudited_ends seed files out (audits.Import fault) h denial unput quiet = record { cause = h; denial = denial; unput = unput; quiet = quiet }
unaudited_ends seed files out (audits.Pack fault) h denial unput quiet = record { cause = h; denial = denial; unput = unput; quiet = quiet }
unaudited_ends seed files out (audits.Client fault) h denial unput quiet = record { cause = h; denial = denial; unput = unput; quiet = quiet }
unaudited_ends seed files out (audits.Limit number) h denial unput quiet = record { cause = h; denial = denial; unput = unput; quiet = quiet }
unaudited_ends seed files out (audits.Differs query) h denial unput quiet = record { cause = h; denial = denial; unput = unput; quiet = quiet }
unaudited_ends seed files out audits.SinkFault h denial unput quiet = absurd h.is_so
unaudited_ends seed files out audits.OutOfMemory h denial unput quiet = record { cause = h; denial = denial; unput = unput; quiet = quiet }
