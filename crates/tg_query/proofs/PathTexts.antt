-- Paths: what is computed is what the grammar says.
use Rattle.std.proofs.Common.{Bor, Err, List, None, Ok, Option, Result, Some, ap, arith, false, get_or, inl, inr, length, map, refl, subst, sym, true, ℕ, ◌<◌, ◌≤◌, ◌∙◌, ◌≡◌}
use Rattle.std.specs.List.{list_all}
use Rattle.std.specs.Prelude.{◌↔◌}
use Rattle.percent_encoding.specs.Percent.{percent_decode}
use Rattle.std.proofs.lemmas.Bool.{and_from, and_parts, cond-true, cond_both, le-leb, leb-true}
use Rattle.std.proofs.lemmas.List.{get_or-map, length-map}
use Rattle.std.proofs.lemmas.List.Folds.{list_all_at}
use Rattle.std.proofs.lemmas.Simd.{map-map}
use Rattle.tg_bytes.specs.Ascii.{slash}
use Rattle.tg_model.specs.Computed.{is_good_name}
use Rattle.tg_query.specs.Answers.{Gives}
use Rattle.tg_query.specs.Cuts.{parts_at}
use Rattle.tg_query.specs.Paths.{PathBehind, PathText, are_names, name_of, names_of, path_behind, path_of, path_with}
use Rattle.tg_query.specs.declared.fault.QueryFault.{QueryFault}
use Rattle.tg_query.specs.declared.fault.QueryFault.TheVariants.{BadPath, OutOfMemory}
use Rattle.tg_query.proofs.Names.{NameLaw, names_decide}

abbrev Answer : Type 0
Answer = Result (List (List ℕ)) QueryFault

refused : (names : List (List ℕ)) → (are_names names ≡ true → ⊥) → path_with names ≡ Err BadPath
refused names never =
    cond_both (are_names names) (Ok names) (Err BadPath) (λ (r : Answer). r ≡ Err BadPath) (λ t. absurd (never t)) (λ f. refl)

-- a segment more than there may be
pub too_many : (text : List ℕ) (n : ℕ) → n < length (parts_at slash text) → 128 ≤ n → Gives (path_of text) (Err BadPath)
unfolding names_of
too_many text n more many =
    let names = map percent_decode (parts_at slash text) in
    inl
    (sym
    (refused names
    (λ t.
    let few = leb-true (length names) 128 (and_parts (list_all is_good_name names) _ t).1 in
    omega (arith, length-map (parts_at slash text) percent_decode, few, more, many))))

not_good : (segment : List ℕ) (e : QueryFault) → ◌≡◌ {A = Result (List ℕ) QueryFault} (Err e) (name_of segment)
    → (is_good_name (percent_decode segment) ≡ false) × (e ≡ BadPath)
not_good segment e =
    let name = percent_decode segment in
    cond_both (is_good_name name) (Ok name) (Err BadPath) (λ (r : Result (List ℕ) QueryFault). Err e ≡ r → (is_good_name name ≡ false) × (e ≡ BadPath))
    (λ t h. absurd cc)
    (λ f h. (f, cc))

all_refused : (text : List ℕ) (at : ℕ) (segment : List ℕ) → (at < length (parts_at slash text)) × (segment ≡ get_or (parts_at slash text) at segment)
    → is_good_name (percent_decode segment) ≡ false → path_of text ≡ Err BadPath
unfolding names_of
all_refused text at segment here bad =
    let parts = parts_at slash text in
    let names = map percent_decode parts in
    let is : get_or names at (percent_decode segment) ≡ percent_decode segment =
    get_or-map percent_decode parts at segment (percent_decode segment) here.0 ∙ ap percent_decode (sym here.1) in
    let none : list_all is_good_name names ≡ false =
    list_all_at is_good_name names at (percent_decode segment) (omega (arith, length-map parts percent_decode, here.0)) (ap is_good_name is ∙ bad) in
    refused names (λ t. let both = and_parts (list_all is_good_name names) _ t in let good : list_all is_good_name names ≡ true = both.0 in absurd cc)

-- a segment that is no name
pub no_name : (text : List ℕ) (at : ℕ) (segment : List ℕ) (e : QueryFault) → (at < length (parts_at slash text)) × (segment ≡ get_or (parts_at slash text) at segment)
    → Gives (name_of segment) (Err e) → Gives (path_of text) (Err e)
no_name text at segment e here (inr memory) = inr (let same : e ≡ OutOfMemory = cc in ap (λ (f : QueryFault). Err f) same)
no_name text at segment e here (inl given) =
    let bad = not_good segment e given in
    inl (ap (λ (f : QueryFault). Err f) bad.1 ∙ sym (all_refused text at segment here bad.0))

-- all segments are names
pub all_names : (text : List ℕ) (path : List (List ℕ)) (segments : List (Bor (List ℕ))) → map (λ segment. segment.now) segments ≡ parts_at slash text
    → path ≡ map (λ segment. percent_decode segment.now) segments → list_all is_good_name path ≡ true → length path ≤ 128
    → Gives (path_of text) (Ok path)
unfolding names_of
all_names text path segments whole is good few =
    let names : map percent_decode (parts_at slash text) ≡ path =
    ap (map percent_decode) (sym whole) ∙ map-map percent_decode (λ (segment : Bor (List ℕ)). segment.now) segments ∙ sym is in
    inl
    (sym
    (ap path_with names
    ∙ cond-true (are_names path) (Ok path) (Err BadPath) (and_from (list_all is_good_name path) _ good (le-leb (length path) 128 few))))

-- ---- the law

path_told : NameLaw → (text : List ℕ) (path : List (List ℕ)) → path_of text ≡ Ok path → PathText text path
path_told good text path =
    cond_both (are_names (names_of text)) (Ok (names_of text)) (Err BadPath) (λ (r : Answer). r ≡ Ok path → PathText text path)
    (λ t e.
    let same : names_of text ≡ path = cc in
    let both = (names_decide good path).0 (subst (λ (names : List (List ℕ)). are_names names ≡ true) same t) in
    record { names = sym same; few = both.1; good = both.0 })
    (λ f e. absurd cc)

path_found : NameLaw → (text : List ℕ) (path : List (List ℕ)) → PathText text path → path_of text ≡ Ok path
path_found good text path h =
    ap path_with (sym h.names) ∙ cond-true (are_names path) (Ok path) (Err BadPath) ((names_decide good path).1 (h.good, h.few))

pub path_law : NameLaw → (text : List ℕ) (path : List (List ℕ)) → (path_of text ≡ Ok path) ↔ PathText text path
path_law good text path = (path_told good text path, path_found good text path)

pub path_fault : (text : List ℕ) (fault : QueryFault) → path_of text ≡ Err fault → fault ≡ BadPath
path_fault text fault =
    cond_both (are_names (names_of text)) (Ok (names_of text)) (Err BadPath) (λ (r : Answer). r ≡ Err fault → fault ≡ BadPath)
    (λ t e. absurd cc)
    (λ f e. cc)

pub behind_told : NameLaw → (rest : Option (List ℕ)) (path : List (List ℕ)) → path_behind rest ≡ Ok path → PathBehind rest path
behind_told good None path e = cc
behind_told good (Some text) path e = path_told good text path e

pub behind_found : NameLaw → (rest : Option (List ℕ)) (path : List (List ℕ)) → PathBehind rest path → path_behind rest ≡ Ok path
behind_found good None path e = ap (λ (l : List (List ℕ)). Ok l) (sym e)
behind_found good (Some text) path h = path_found good text path h

pub behind_fault : (rest : Option (List ℕ)) (fault : QueryFault) → path_behind rest ≡ Err fault → fault ≡ BadPath
behind_fault None fault e = absurd cc
behind_fault (Some text) fault e = path_fault text fault e
