-- What is sent of sections, one after another.
use Rattle.std.proofs.Common.{◌≡◌, ◌≢◌, ◌≤◌, Bool, true, false, not, ◌||◌, ◌&&◌, cond, List, [], ◌∷◌, ◌++◌, length, Contains, if◌then◌else◌}
use Rattle.std.proofs.Common.{append_assoc, append-nil, ap, ap₂, arith, inl, inr, refl, sym, subst, ◌⊎◌, ◌∙◌}
use Rattle.std.proofs.lemmas.List.Elements.{Contains-append_cases, Contains-append_left, Contains-append_right, Contains-push_cases, Contains-push, filter-append}
use Rattle.std.proofs.lemmas.List.Folds.{list_any-append}
use Rattle.tg_cid.specs.Cid.{CidParts}
use Rattle.tg_cid.specs.CodeLaws.{same_cid, same_cid_decides}
use Rattle.tg_cid.specs.declared.cid.HashKind.{HashKind}
use Rattle.tg_cid.specs.declared.cid.HashKind.TheVariants.{Identity, Sha256}
use Rattle.tg_model.specs.Dag.{Section}
use Rattle.tg_model.specs.Fits.{HasOneBlockEach, IfOnce}
use Rattle.tg_model.specs.Queries.{QueryParts}
use Rattle.tg_model.specs.Traversal.{asked, first_behind, has_cid, is_asked, is_hashed, is_raw, is_sent_behind, sent, unrepeated}

-- the sections that are sent with one more, which is sent where it is sent behind them
abbrev pub taken_if : Bool → List Section → Section → List Section
taken_if true before section = before ++ section ∷ []
taken_if false before section = before

abbrev pub taken_as : QueryParts → List Section → Section → List Section
taken_as q before section = taken_if (is_sent_behind q before section.cid) before section

-- ---- sections under a CID

first_one : (s : Section) (sections : List Section) → Contains (s ∷ sections) s
first_one s sections = Contains-append_left (s ∷ []) sections s (Contains-push [] s)

other_one : (s x : Section) (sections : List Section) → Contains sections x → Contains (s ∷ sections) x
other_one s x sections h = Contains-append_right (s ∷ []) sections x h

one_of : (s x : Section) (sections : List Section) → Contains (s ∷ sections) x → (s ≡ x) ⊎ Contains sections x
one_of s x sections h = elim (Contains-append_cases (s ∷ []) sections x h) [
  | inl a ↦ elim (Contains-push_cases [] s x a) [
    | inl none ↦ absurd (omega (arith, none.1))
    | inr same ↦ inl same
  ]
  | inr b ↦ inr b
]

pub is_under : (cid : CidParts) (sections : List Section) (x : Section) → Contains sections x → x.cid ≡ cid → has_cid cid sections ≡ true
is_under cid [] x h e = absurd (omega (arith, h.1))
is_under cid (s ∷ sections) x h e = by (same_cid cid s.cid) refl (λ there. is_under cid sections x there e)
  where
    by : (b : Bool) → same_cid cid s.cid ≡ b → (Contains sections x → has_cid cid sections ≡ true) → (b || has_cid cid sections) ≡ true
    by true t later = refl
    by false t later = elim (one_of s x sections h) [
      | inl same ↦
          let equal = (same_cid_decides cid s.cid).1 (sym e ∙ ap (λ (y : Section). y.cid) (sym same)) in
          cc
      | inr there ↦ later there
    ]

pub under : (cid : CidParts) (sections : List Section) → has_cid cid sections ≡ true → (x : Section) × Contains sections x × (x.cid ≡ cid)
under cid [] t = cc
under cid (s ∷ sections) t = by (same_cid cid s.cid) refl t (under cid sections)
  where
    by : (b : Bool) → same_cid cid s.cid ≡ b → (b || has_cid cid sections) ≡ true
        → (has_cid cid sections ≡ true → (x : Section) × Contains sections x × (x.cid ≡ cid)) → (x : Section) × Contains (s ∷ sections) x × (x.cid ≡ cid)
    by true e t later = (s, first_one s sections, sym ((same_cid_decides cid s.cid).0 e))
    by false e t later = let there = later t in (there.0, other_one s there.0 sections there.1, there.2)

-- ---- the first under each CID

-- of sections and others behind them
first_behind-append : (before u v : List Section) → first_behind before (u ++ v) ≡ first_behind before u ++ first_behind (before ++ u) v
first_behind-append before [] v = ap (λ (l : List Section). first_behind l v) (sym (append-nil before))
first_behind-append before (s ∷ u) v =
    by (has_cid s.cid before) (first_behind-append (before ++ s ∷ []) u v
    ∙ ap (λ (l : List Section). first_behind (before ++ s ∷ []) u ++ first_behind l v) (append_assoc before (s ∷ []) u))
  where
    by : (b : Bool) → first_behind (before ++ s ∷ []) (u ++ v) ≡ first_behind (before ++ s ∷ []) u ++ first_behind (before ++ s ∷ u) v
        → (if b then first_behind (before ++ s ∷ []) (u ++ v) else s ∷ first_behind (before ++ s ∷ []) (u ++ v))
        ≡ (if b then first_behind (before ++ s ∷ []) u else s ∷ first_behind (before ++ s ∷ []) u) ++ first_behind (before ++ s ∷ u) v
    by true later = later
    by false later = ap (λ (l : List Section). s ∷ l) later

-- under which CIDs they are
or_again : (a b c : Bool) → (b ≡ true → a ≡ true) → (a || c) ≡ ((a || b) || c)
or_again true b c h = refl
or_again false true c h = cc (h refl)
or_again false false c h = refl

as_known : (cid : CidParts) (before u : List Section) → has_cid cid (before ++ first_behind before u) ≡ has_cid cid (before ++ u)
as_known cid before [] = refl
as_known cid before (s ∷ u) =
    by (has_cid s.cid before) refl (as_known cid (before ++ s ∷ []) u ∙ ap (has_cid cid) (append_assoc before (s ∷ []) u))
  where
    there : has_cid s.cid before ≡ true → (same_cid cid s.cid || false) ≡ true → has_cid cid before ≡ true
    there t = at (same_cid cid s.cid) refl
      where
        at : (b : Bool) → same_cid cid s.cid ≡ b → (b || false) ≡ true → has_cid cid before ≡ true
        at true e h = ap (λ (c : CidParts). has_cid c before) ((same_cid_decides cid s.cid).0 e) ∙ t
        at false e h = cc

    by : (b : Bool) → has_cid s.cid before ≡ b → has_cid cid ((before ++ s ∷ []) ++ first_behind (before ++ s ∷ []) u) ≡ has_cid cid (before ++ s ∷ u)
        → has_cid cid (before ++ (if b then first_behind (before ++ s ∷ []) u else s ∷ first_behind (before ++ s ∷ []) u)) ≡ has_cid cid (before ++ s ∷ u)
    by true t rest =
        list_any-append (λ (x : Section). same_cid cid x.cid) before (first_behind (before ++ s ∷ []) u)
        ∙ or_again (has_cid cid before) (same_cid cid s.cid || false) (has_cid cid (first_behind (before ++ s ∷ []) u)) (there t)
        ∙ ap (λ (b : Bool). b || has_cid cid (first_behind (before ++ s ∷ []) u)) (sym (list_any-append (λ (x : Section). same_cid cid x.cid) before (s ∷ [])))
        ∙ sym (list_any-append (λ (x : Section). same_cid cid x.cid) (before ++ s ∷ []) (first_behind (before ++ s ∷ []) u))
        ∙ rest
    by false t rest = ap (has_cid cid) (sym (append_assoc before (s ∷ []) (first_behind (before ++ s ∷ []) u))) ∙ rest

-- they are among all, and no more
first_held : (before u : List Section) (x : Section) → Contains (first_behind before u) x → Contains u x
first_held before [] x h = h
first_held before (s ∷ u) x h = by (has_cid s.cid before) h (first_held (before ++ s ∷ []) u x)
  where
    by : (b : Bool) → Contains (if b then first_behind (before ++ s ∷ []) u else s ∷ first_behind (before ++ s ∷ []) u) x
        → (Contains (first_behind (before ++ s ∷ []) u) x → Contains u x) → Contains (s ∷ u) x
    by true h later = other_one s x u (later h)
    by false h later = elim (one_of s x (first_behind (before ++ s ∷ []) u) h) [
      | inl same ↦ subst (Contains (s ∷ u)) same (first_one s u)
      | inr there ↦ other_one s x u (later there)
    ]

first_fewer : (before u : List Section) → length (first_behind before u) ≤ length u
first_fewer before [] = omega arith
first_fewer before (s ∷ u) = by (has_cid s.cid before) (first_fewer (before ++ s ∷ []) u)
  where
    by : (b : Bool) → length (first_behind (before ++ s ∷ []) u) ≤ length u
        → length (if b then first_behind (before ++ s ∷ []) u else s ∷ first_behind (before ++ s ∷ []) u) ≤ length (s ∷ u)
    by true h = omega arith
    by false h = omega arith

-- ---- those that are asked for

-- a section under a CID with sha2-256 is
pub hashed_asked : (q : QueryParts) (cid : CidParts) → cid.hash ≡ Sha256 → is_asked q cid ≡ true
hashed_asked q cid e = ap (λ (hash : HashKind). is_raw q.form || is_hashed hash) e ∙ by (is_raw q.form)
  where
    by : (b : Bool) → (b || true) ≡ true
    by true = refl
    by false = refl

-- and one that isn't has an identity CID
pub unasked_identity : (q : QueryParts) (cid : CidParts) → is_asked q cid ≡ false → cid.hash ≡ Identity
unasked_identity q cid e = by (is_raw q.form) cid.hash e
  where
    by : (b : Bool) (hash : HashKind) → (b || is_hashed hash) ≡ false → hash ≡ Identity
    by b Identity e = refl
    by true Sha256 e = cc
    by false Sha256 e = cc

-- of sections and others behind them
pub asked_append : (q : QueryParts) (u v : List Section) → asked q (u ++ v) ≡ asked q u ++ asked q v
asked_append q u v = filter-append (λ (s : Section). is_asked q s.cid) u v

-- each of them is one of the sections, and asked for
pub asked_held : (q : QueryParts) (u : List Section) (x : Section) → Contains (asked q u) x → Contains u x × (is_asked q x.cid ≡ true)
asked_held q [] x h = absurd (omega (arith, h.1))
asked_held q (s ∷ u) x h = by (is_asked q s.cid) refl h (asked_held q u x)
  where
    by : (b : Bool) → is_asked q s.cid ≡ b → Contains (cond b (s ∷ asked q u) (asked q u)) x → (Contains (asked q u) x → Contains u x × (is_asked q x.cid ≡ true))
        → Contains (s ∷ u) x × (is_asked q x.cid ≡ true)
    by true e h later = elim (one_of s x (asked q u) h) [
      | inl same ↦ (subst (Contains (s ∷ u)) same (first_one s u), ap (λ (y : Section). is_asked q y.cid) (sym same) ∙ e)
      | inr there ↦ let held = later there in (other_one s x u held.0, held.1)
    ]
    by false e h later = let held = later h in (other_one s x u held.0, held.1)

-- and each section that is asked for is one of them
pub held_asked : (q : QueryParts) (u : List Section) (x : Section) → is_asked q x.cid ≡ true → Contains u x → Contains (asked q u) x
held_asked q [] x e h = absurd (omega (arith, h.1))
held_asked q (s ∷ u) x e h = by (is_asked q s.cid) refl (held_asked q u x e)
  where
    by : (b : Bool) → is_asked q s.cid ≡ b → (Contains u x → Contains (asked q u) x) → Contains (cond b (s ∷ asked q u) (asked q u)) x
    by true t later = elim (one_of s x u h) [
      | inl same ↦ subst (Contains (s ∷ asked q u)) same (first_one s (asked q u))
      | inr there ↦ other_one s x (asked q u) (later there)
    ]
    by false t later = elim (one_of s x u h) [
      | inl same ↦ let both : false ≡ true = sym t ∙ ap (λ (y : Section). is_asked q y.cid) same ∙ e in absurd (cc both)
      | inr there ↦ later there
    ]

-- one of the sections stands under a CID that is asked for where one of these does
pub asked_known : (q : QueryParts) (cid : CidParts) (u : List Section) → is_asked q cid ≡ true → has_cid cid (asked q u) ≡ has_cid cid u
asked_known q cid [] e = refl
asked_known q cid (s ∷ u) e = by (is_asked q s.cid) refl (same_cid cid s.cid) refl (asked_known q cid u e)
  where
    by : (b : Bool) → is_asked q s.cid ≡ b → (c : Bool) → same_cid cid s.cid ≡ c → has_cid cid (asked q u) ≡ has_cid cid u
        → has_cid cid (cond b (s ∷ asked q u) (asked q u)) ≡ (c || has_cid cid u)
    by true t c f later = ap₂ (λ (a b : Bool). a || b) f later
    by false t false f later = later
    by false t true f later =
        let both : false ≡ true = sym t ∙ ap (is_asked q) (sym ((same_cid_decides cid s.cid).0 f)) ∙ e in
        absurd (cc both)

-- one that is asked for stands among the others where these before it were
record AskedSplit (q : QueryParts) (sections here : List Section) (next : Section) : Type 0 where
  before : List Section
  behind : List Section
  whole : sections ≡ before ++ next ∷ behind
  here_is : asked q before ≡ here
  is : is_asked q next.cid ≡ true

asked_split : (q : QueryParts) (sections here rest : List Section) (next : Section) → asked q sections ≡ here ++ next ∷ rest → AskedSplit q sections here next
asked_split q [] [] rest next e = cc
asked_split q [] (h ∷ here) rest next e = cc
asked_split q (s ∷ sections) here rest next e = by (is_asked q s.cid) refl here e (λ here e. asked_split q sections here rest next e)
  where
    by : (b : Bool) → is_asked q s.cid ≡ b → (here : List Section) → cond b (s ∷ asked q sections) (asked q sections) ≡ here ++ next ∷ rest
        → ((here : List Section) → asked q sections ≡ here ++ next ∷ rest → AskedSplit q sections here next) → AskedSplit q (s ∷ sections) here next
    by false t here e later =
        let there = later here e in
        record {
          before = s ∷ there.before;
          behind = there.behind;
          whole = ap (λ (l : List Section). s ∷ l) there.whole;
          here_is = ap (λ (b : Bool). cond b (s ∷ asked q there.before) (asked q there.before)) t ∙ there.here_is;
          is = there.is;
        }
    by true t [] e later =
        let same : s ≡ next = cc in
        record {
          before = [];
          behind = sections;
          whole = ap (λ (x : Section). x ∷ sections) same;
          here_is = refl;
          is = ap (λ (x : Section). is_asked q x.cid) (sym same) ∙ t;
        }
    by true t (h ∷ here) e later =
        let same : s ≡ h = cc in
        let rest_is : asked q sections ≡ here ++ next ∷ rest = cc in
        let there = later here rest_is in
        record {
          before = s ∷ there.before;
          behind = there.behind;
          whole = ap (λ (l : List Section). s ∷ l) there.whole;
          here_is = ap (λ (b : Bool). cond b (s ∷ asked q there.before) (asked q there.before)) t
              ∙ ap₂ (λ (x : Section) (l : List Section). x ∷ l) same there.here_is;
          is = there.is;
        }

-- ---- what is sent

-- where repeats are sent, each section that is asked for is
pub sent_all : (q : QueryParts) (sections : List Section) → q.dups ≡ true → sent q sections ≡ asked q sections
sent_all q sections e = ap (λ (dups : Bool). unrepeated dups (asked q sections)) e

-- of sections and others behind them
pub sent_front : (q : QueryParts) (u v : List Section) → (rest : List Section) × (sent q (u ++ v) ≡ sent q u ++ rest) × (length rest ≤ length (asked q v))
sent_front q u v = let more = by q.dups (asked q u) (asked q v) in (more.0, ap (unrepeated q.dups) (asked_append q u v) ∙ more.1, more.2)
  where
    by : (dups : Bool) (u v : List Section) → (rest : List Section) × (unrepeated dups (u ++ v) ≡ unrepeated dups u ++ rest) × (length rest ≤ length v)
    by true u v = (v, refl, omega arith)
    by false u v = (first_behind u v, first_behind-append [] u v, first_fewer u v)

-- one more section is sent where it is sent behind what is sent of the others
pub sent_step : (q : QueryParts) (sections : List Section) (section : Section) → sent q (sections ++ section ∷ []) ≡ taken_as q (sent q sections) section
sent_step q sections section = ap (unrepeated q.dups) (asked_append q sections (section ∷ [])) ∙ by (is_asked q section.cid)
  where
    at : (known : Bool) (xs : List Section) → first_behind [] xs ++ (if known then [] else section ∷ []) ≡ taken_if (not known) (first_behind [] xs) section
    at true xs = append-nil (first_behind [] xs)
    at false xs = refl

    one : (dups : Bool) (xs : List Section) → unrepeated dups (xs ++ section ∷ []) ≡ taken_if (dups || not (has_cid section.cid (unrepeated dups xs))) (unrepeated dups xs) section
    one true xs = refl
    one false xs = first_behind-append [] xs (section ∷ []) ∙ at (has_cid section.cid xs) xs
        ∙ ap (λ (b : Bool). taken_if (not b) (first_behind [] xs) section) (sym (as_known section.cid [] xs))

    by : (asks : Bool) → unrepeated q.dups (asked q sections ++ cond asks (section ∷ []) [])
        ≡ taken_if (asks && (q.dups || not (has_cid section.cid (sent q sections)))) (sent q sections) section
    by true = one q.dups (asked q sections)
    by false = ap (unrepeated q.dups) (append-nil (asked q sections))

-- what is sent is among the sections, and asked for
sent_among : (q : QueryParts) (sections : List Section) (x : Section) → Contains (sent q sections) x → Contains (asked q sections) x
sent_among q sections x = by q.dups (asked q sections)
  where
    by : (dups : Bool) (xs : List Section) → Contains (unrepeated dups xs) x → Contains xs x
    by true xs h = h
    by false xs h = first_held [] xs x h

pub sent_held : (q : QueryParts) (sections : List Section) (x : Section) → Contains (sent q sections) x → Contains sections x
sent_held q sections x h = (asked_held q sections x (sent_among q sections x h)).0

pub sent_asked : (q : QueryParts) (sections : List Section) (x : Section) → Contains (sent q sections) x → is_asked q x.cid ≡ true
sent_asked q sections x h = (asked_held q sections x (sent_among q sections x h)).1

-- and each section that is asked for is sent, where one block stands under each CID
pub held_sent : (q : QueryParts) (sections : List Section) (x : Section) → IfOnce q.dups (HasOneBlockEach sections) → is_asked q x.cid ≡ true → Contains sections x
    → Contains (sent q sections) x
held_sent q sections x one asks h = by q.dups (asked q sections) (λ y held. (asked_held q sections y held).0) one (held_asked q sections x asks h)
  where
    by : (dups : Bool) (xs : List Section) → ((y : Section) → Contains xs y → Contains sections y) → IfOnce dups (HasOneBlockEach sections) → Contains xs x → Contains (unrepeated dups xs) x
    by true xs among one h = h
    by false xs among one h =
        let first = under x.cid (first_behind [] xs) (as_known x.cid [] xs ∙ is_under x.cid xs x h refl) in
        let block : first.0.block ≡ x.block = one first.0 x (among first.0 (first_held [] xs first.0 first.1)) (among x h) first.2 in
        let same : first.0 ≡ x = λ i. record { cid = first.2 i; block = block i } in
        subst (Contains (first_behind [] xs)) same first.1

-- a section is sent behind others where it is behind what is sent of them
pub sent_behind : (q : QueryParts) (sections : List Section) (cid : CidParts) → is_sent_behind q (sent q sections) cid ≡ is_sent_behind q sections cid
sent_behind q sections cid = by (is_asked q cid) refl
  where
    at : (dups : Bool) (xs : List Section) → (dups || not (has_cid cid (unrepeated dups xs))) ≡ (dups || not (has_cid cid xs))
    at true xs = refl
    at false xs = ap not (as_known cid [] xs)

    by : (asks : Bool) → is_asked q cid ≡ asks → (asks && (q.dups || not (has_cid cid (sent q sections)))) ≡ (asks && (q.dups || not (has_cid cid sections)))
    by true e = at q.dups (asked q sections) ∙ ap (λ (b : Bool). q.dups || not b) (asked_known q cid sections e)
    by false e = refl

-- where a section isn't sent behind others, it isn't asked for, or repeats aren't sent and one of the others stands under
-- its CID
pub known_behind : (q : QueryParts) (sections : List Section) (cid : CidParts) → is_sent_behind q sections cid ≡ false
    → (is_asked q cid ≡ false) ⊎ ((q.dups ≡ false) × ((x : Section) × Contains sections x × (x.cid ≡ cid)))
known_behind q sections cid e = by (is_asked q cid) refl q.dups refl (has_cid cid sections) refl e
  where
    by : (asks : Bool) → is_asked q cid ≡ asks → (dups : Bool) → q.dups ≡ dups → (known : Bool) → has_cid cid sections ≡ known → (asks && (dups || not known)) ≡ false
        → (is_asked q cid ≡ false) ⊎ ((q.dups ≡ false) × ((x : Section) × Contains sections x × (x.cid ≡ cid)))
    by false a dups d known h e = inl a
    by true a true d known h e = cc
    by true a false d true h e = inr (d, under cid sections h)
    by true a false d false h e = cc

-- so where one that is asked for isn't, each is sent once
pub once_behind : (q : QueryParts) (sections : List Section) (cid : CidParts) → is_asked q cid ≡ true → is_sent_behind q sections cid ≡ false → q.dups ≡ false
once_behind q sections cid asks e = elim (known_behind q sections cid e) [
  | inl unasked ↦ let both : false ≡ true = sym unasked ∙ asks in absurd (cc both)
  | inr known ↦ known.0
]

-- where one is sent behind others it is asked for, and where each is sent once, none of them stands under its CID
pub asked_behind : (q : QueryParts) (sections : List Section) (cid : CidParts) → is_sent_behind q sections cid ≡ true → is_asked q cid ≡ true
asked_behind q sections cid e = by (is_asked q cid) (q.dups || not (has_cid cid sections)) e
  where
    by : (a b : Bool) → (a && b) ≡ true → a ≡ true
    by true b e = refl
    by false b e = cc

pub new_behind : (q : QueryParts) (sections : List Section) (cid : CidParts) → is_sent_behind q sections cid ≡ true
    → IfOnce q.dups ((x : Section) → Contains sections x → x.cid ≢ cid)
new_behind q sections cid e = by (is_asked q cid) q.dups e
  where
    by : (asks dups : Bool) → (asks && (dups || not (has_cid cid sections))) ≡ true → IfOnce dups ((x : Section) → Contains sections x → x.cid ≢ cid)
    by false dups t = cc
    by true true t = tt
    by true false t = λ x h same. let there = is_under cid sections x h same in cc

-- and the other way round
pub not_among : (q : QueryParts) (sections : List Section) (cid : CidParts) → is_asked q cid ≡ true
    → IfOnce q.dups ((x : Section) → Contains sections x → x.cid ≢ cid) → is_sent_behind q sections cid ≡ true
not_among q sections cid asks none = ap (λ (b : Bool). b && (q.dups || not (has_cid cid sections))) asks ∙ by q.dups (has_cid cid sections) refl none
  where
    by : (dups b : Bool) → has_cid cid sections ≡ b → IfOnce dups ((x : Section) → Contains sections x → x.cid ≢ cid) → (dups || not b) ≡ true
    by true b e h = refl
    by false false e h = refl
    by false true e h = let there = under cid sections e in absurd (h there.0 there.1 there.2)

-- what holds where each is sent once
pub once : (dups : Bool) (P : Type 0) → dups ≡ false → IfOnce dups P → P
once true P e h = cc
once false P e h = h

-- what is sent with a section that is sent behind others
pub sent_more : (q : QueryParts) (front rest : List Section) (x : Section) → is_sent_behind q front x.cid ≡ true
    → (more : List Section) × (sent q (front ++ x ∷ rest) ≡ sent q front ++ x ∷ more)
sent_more q front rest x new =
    let behind = sent_front q (front ++ x ∷ []) rest in
    let here : sent q (front ++ x ∷ []) ≡ sent q front ++ x ∷ [] =
    sent_step q front x ∙ ap (λ (b : Bool). taken_if b (sent q front) x) (sent_behind q front x.cid ∙ new) in (
      behind.0,
      ap (sent q) (sym (append_assoc front (x ∷ []) rest)) ∙ behind.1 ∙ ap (λ (l : List Section). l ++ behind.0) here
          ∙ append_assoc (sent q front) (x ∷ []) behind.0,
    )

-- a section that is sent stands among the others where these before it were sent, and it is sent behind them
pub record SplitAt (q : QueryParts) (sections front : List Section) (next : Section) : Type 0 where
  pub before : List Section
  pub behind : List Section
  pub whole : sections ≡ before ++ next ∷ behind
  pub front_is : sent q before ≡ front
  pub next_sent : is_sent_behind q front next.cid ≡ true

record Split (before sections front : List Section) (next : Section) : Type 0 where
  here : List Section
  behind : List Section
  whole : sections ≡ here ++ next ∷ behind
  front_is : first_behind before here ≡ front
  new : has_cid next.cid (before ++ here) ≡ false

split : (before sections front rest : List Section) (next : Section) → first_behind before sections ≡ front ++ next ∷ rest → Split before sections front next
split before [] [] rest next e = cc
split before [] (f ∷ front) rest next e = cc
split before (s ∷ sections) front rest next e =
    by (has_cid s.cid before) refl front e (λ front e. split (before ++ s ∷ []) sections front rest next e)
  where
    by : (b : Bool) → has_cid s.cid before ≡ b → (front : List Section)
        → (if b then first_behind (before ++ s ∷ []) sections else s ∷ first_behind (before ++ s ∷ []) sections) ≡ front ++ next ∷ rest
        → ((front : List Section) → first_behind (before ++ s ∷ []) sections ≡ front ++ next ∷ rest → Split (before ++ s ∷ []) sections front next)
        → Split before (s ∷ sections) front next
    by true t front e later =
        let there = later front e in
        record {
          here = s ∷ there.here;
          behind = there.behind;
          whole = ap (λ (l : List Section). s ∷ l) there.whole;
          front_is = ap (λ (b : Bool). if b then first_behind (before ++ s ∷ []) there.here else s ∷ first_behind (before ++ s ∷ []) there.here) t ∙ there.front_is;
          new = ap (has_cid next.cid) (sym (append_assoc before (s ∷ []) there.here)) ∙ there.new;
        }
    by false t [] e later =
        let same : s ≡ next = cc in
        record {
          here = [];
          behind = sections;
          whole = ap (λ (x : Section). x ∷ sections) same;
          front_is = refl;
          new = ap (has_cid next.cid) (append-nil before) ∙ ap (λ (x : Section). has_cid x.cid before) (sym same) ∙ t;
        }
    by false t (f ∷ front) e later =
        let same : s ≡ f = cc in
        let rest_is : first_behind (before ++ s ∷ []) sections ≡ front ++ next ∷ rest = cc in
        let there = later front rest_is in
        record {
          here = s ∷ there.here;
          behind = there.behind;
          whole = ap (λ (l : List Section). s ∷ l) there.whole;
          front_is = ap (λ (b : Bool). if b then first_behind (before ++ s ∷ []) there.here else s ∷ first_behind (before ++ s ∷ []) there.here) t
              ∙ ap₂ (λ (x : Section) (l : List Section). x ∷ l) same there.front_is;
          new = ap (has_cid next.cid) (sym (append_assoc before (s ∷ []) there.here)) ∙ there.new;
        }

pub sent_split : (q : QueryParts) (sections front rest : List Section) (next : Section) → sent q sections ≡ front ++ next ∷ rest → SplitAt q sections front next
sent_split q sections front rest next e =
    let made = by q.dups (asked q sections) e in
    let parts = asked_split q sections made.0 made.1 next made.2 in
    record {
      before = parts.before;
      behind = parts.behind;
      whole = parts.whole;
      front_is = ap (unrepeated q.dups) parts.here_is ∙ made.3;
      next_sent = ap (λ (b : Bool). b && (q.dups || not (has_cid next.cid front))) parts.is ∙ made.4;
    }
  where
    by : (dups : Bool) (xs : List Section) → unrepeated dups xs ≡ front ++ next ∷ rest
        → (before : List Section) × (behind : List Section) × (xs ≡ before ++ next ∷ behind) × (unrepeated dups before ≡ front) × ((dups || not (has_cid next.cid front)) ≡ true)
    by true xs e = (front, rest, e, refl, refl)
    by false xs e =
        let there = split [] xs front rest next e in
        let known : has_cid next.cid front ≡ false =
        ap (has_cid next.cid) (sym there.front_is) ∙ as_known next.cid [] there.here ∙ there.new in
        (there.here, there.behind, there.whole, there.front_is, ap not known)
