-- How sections that stand behind those to which they link are put together.
use Rattle.std.proofs.Common.{◌≡◌, ⊎_elim, ℕ, List, [], ◌∷◌, ◌++◌, drop, get_or, refl, sym, ap, ◌∙◌, subst}
use Rattle.std.proofs.Common.{append_assoc, arith}
use Rattle.std.specs.Prelude.{All, Contains}
use Rattle.std.proofs.lemmas.List.{append-nil, get_or-map, length-map, map-append}
use Rattle.std.proofs.lemmas.List.Elements.{All-nil, All-weaker, Contains-append_cases, Contains-append_left}
use Rattle.std.proofs.lemmas.List.Elements.{Contains-append_right}
use Rattle.tg_cid.specs.Cid.{CidParts}
use Rattle.tg_cid.specs.declared.cid.Codec.TheVariants.{Raw}
use Rattle.tg_model.specs.Dag.{Section, links_of}
use Rattle.tg_model.specs.declared.kinds.Kind.{Kind}
use Rattle.tg_model.specs.declared.kinds.NewEntry.{NewEntry}
use Rattle.tg_node_writing.specs.BlockOrder.{AreBehindLinks, LinksInto, cids_of, entry_cids}
use Rattle.tg_node_writing.specs.Keeping.{section_of}

-- ---- CIDs among others

abbrev pub AreAmong : List CidParts → List CidParts → Type 0
AreAmong few many = (cid : CidParts) → Contains few cid → Contains many cid

pub among_joined : (a b many : List CidParts) → AreAmong a many → AreAmong b many → AreAmong (a ++ b) many
among_joined a b many h k cid has =
    ⊎_elim (λ (x : Contains a cid). h cid x) (λ (x : Contains b cid). k cid x) (Contains-append_cases a b cid has)

pub among_left : (a b : List CidParts) → AreAmong a (a ++ b)
among_left a b cid has = Contains-append_left a b cid has

pub among_right : (a b : List CidParts) → AreAmong b (a ++ b)
among_right a b cid has = Contains-append_right a b cid has

among_beside : (few many more : List CidParts) → AreAmong few many → AreAmong (few ++ more) (many ++ more)
among_beside few many more h = among_joined few more (many ++ more) (λ cid has. Contains-append_left many more cid (h cid has)) (among_right many more)

pub links_wider : (few many : List CidParts) (section : Section) → AreAmong few many → LinksInto few section
    → LinksInto many section
links_wider few many section among h kind reads =
    All-weaker (Contains few) (Contains many) among (links_of kind) (h kind reads)

-- ---- one by one

head_section : {x y : Section} {xs ys : List Section} → x ∷ xs ≡ y ∷ ys → x ≡ y
head_section {x} e = ap (λ (l : List Section). get_or l 0 x) e

tail_sections : {x y : Section} {xs ys : List Section} → x ∷ xs ≡ y ∷ ys → xs ≡ ys
tail_sections e = ap (drop 1) e

nothing_of : {X : Type 0} (before : List Section) (section : Section) (after : List Section)
    → ◌≡◌ {A = List Section} [] (before ++ section ∷ after) → X
nothing_of [] section after e = absurd (cc)
nothing_of (first ∷ before) section after e = absurd (cc)

-- nothing is in order
pub behind_nothing : (known : List CidParts) → AreBehindLinks known []
behind_nothing known before section after e = nothing_of before section after e

-- the first, and those behind it
pub behind_first : (known : List CidParts) (section : Section) (sections : List Section)
    → AreBehindLinks known (section ∷ sections) → LinksInto known section
behind_first known section sections h =
    subst (λ (l : List CidParts). LinksInto l section) (append-nil known) (h [] section sections refl)

pub behind_rest : (known : List CidParts) (section : Section) (sections : List Section)
    → AreBehindLinks known (section ∷ sections) → AreBehindLinks (known ++ section.cid ∷ []) sections
behind_rest known section sections h before next after e =
    subst (λ (l : List CidParts). LinksInto l next) (sym (append_assoc known (section.cid ∷ []) (cids_of before)))
    (h (section ∷ before) next after (ap (λ (l : List Section). section ∷ l) e))

pub behind_both : (known : List CidParts) (section : Section) (sections : List Section) → LinksInto known section
    → AreBehindLinks (known ++ section.cid ∷ []) sections
    → AreBehindLinks known (section ∷ sections)
behind_both known section sections here rest [] next after e =
    subst (λ (l : List CidParts). LinksInto l next) (sym (append-nil known)) (subst (LinksInto known) (head_section e) here)
behind_both known section sections here rest (first ∷ before) next after e =
    subst (λ (x : Section). LinksInto (known ++ x.cid ∷ cids_of before) next) (head_section e)
    (subst (λ (l : List CidParts). LinksInto l next) (append_assoc known (section.cid ∷ []) (cids_of before))
    (rest before next after (tail_sections e)))

-- one section
pub behind_one : (known : List CidParts) (section : Section) → LinksInto known section
    → AreBehindLinks known (section ∷ [])
behind_one known section here = behind_both known section [] here (behind_nothing (known ++ section.cid ∷ []))

-- more known CIDs
pub behind_wider : (few many : List CidParts) (sections : List Section) → AreAmong few many
    → AreBehindLinks few sections → AreBehindLinks many sections
behind_wider few many sections among h before section after e =
    links_wider (few ++ cids_of before) (many ++ cids_of before) section (among_beside few many (cids_of before) among) (h before section after e)

-- further sections behind them
pub behind_joined : (known : List CidParts) (a b : List Section) → AreBehindLinks known a
    → AreBehindLinks (known ++ cids_of a) b → AreBehindLinks known (a ++ b)
behind_joined known [] b h k = subst (λ (l : List CidParts). AreBehindLinks l b) (append-nil known) k
behind_joined known (section ∷ a) b h k =
    behind_both known section (a ++ b) (behind_first known section a h)
    (behind_joined (known ++ section.cid ∷ []) a b (behind_rest known section a h)
    (subst (λ (l : List CidParts). AreBehindLinks l b) (sym (append_assoc known (section.cid ∷ []) (cids_of a))) k))

-- sections that link to others of the same list or to none
pub behind_apart : (a b : List Section) → AreBehindLinks [] a → AreBehindLinks [] b → AreBehindLinks [] (a ++ b)
behind_apart a b h k =
    behind_joined [] a b h (behind_wider [] (cids_of a) b (λ cid has. Contains-append_left [] (cids_of a) cid has) k)

-- sections whose links lead to CIDs that stand before them
pub behind_known : (known : List CidParts) (a b : List Section) → AreAmong known (cids_of a) → AreBehindLinks [] a
    → AreBehindLinks known b → AreBehindLinks [] (a ++ b)
behind_known known a b among h k = behind_joined [] a b h (behind_wider known (cids_of a) b among k)

-- a front of them
pub behind_front : (known : List CidParts) (a b : List Section) → AreBehindLinks known (a ++ b) → AreBehindLinks known a
behind_front known a b h before section after e =
    h before section (after ++ b) (ap (λ (l : List Section). l ++ b) e ∙ append_assoc before (section ∷ after) b)

-- ---- the CIDs of sections

pub cid_among : (sections : List Section) (section : Section) → Contains sections section
    → Contains (cids_of sections) section.cid
cid_among sections section has =
    let f = λ (x : Section). x.cid in
    let long = length-map sections f in
    let lt = has.1 in
    (has.0, omega (arith, long, lt), get_or-map f sections has.0 section section.cid lt ∙ ap f has.2)

pub entry_among : (entries : List NewEntry) (entry : NewEntry) → Contains entries entry
    → Contains (entry_cids entries) entry.cid
entry_among entries entry has =
    let f = λ (x : NewEntry). x.cid in
    let long = length-map entries f in
    let lt = has.1 in
    (has.0, omega (arith, long, lt), get_or-map f entries has.0 entry entry.cid lt ∙ ap f has.2)

pub cids_joined : (a b : List Section) → cids_of (a ++ b) ≡ cids_of a ++ cids_of b
cids_joined a b = map-append (λ (x : Section). x.cid) a b

-- a raw block links to nothing
pub raw_links : (known : List CidParts) (block : List ℕ) → LinksInto known (section_of Raw block)
raw_links known block kind reads =
    subst (λ (k : Kind). All (Contains known) (links_of k)) (sym reads) (All-nil (Contains known))
