-- The numbers of what was sent.
use Rattle.std.proofs.Common.{◌≡◌, ◌⊎◌, ℕ, suc, ◌<◌, ◌≤◌, Bool, true, false, List, [], ◌∷◌, ◌++◌, inl, inr, length, refl, ap, ◌∙◌, arith}
use Rattle.std.specs.Prelude.{if◌then◌else◌}
use Rattle.std.proofs.lemmas.List.{length-append}
use Rattle.httparse.specs.Grammar.{print_blank, print_end}
use Rattle.tg_bytes.specs.Lists.{joined}
use Rattle.tg_faults.specs.Faults.{Rose}
use Rattle.tg_http.specs.HeadText.{BeginsHead, HeadText}
use Rattle.tg_http.specs.Heads.{PassesLimit}
use Rattle.tg_http.specs.declared.request.RequestHead.{RequestHead}
use Rattle.tg_model.specs.Queries.{QueryParts}
use Rattle.tg_model.specs.Stores.{Store}
use Rattle.tg_reply.specs.Asked.{is_head}
use Rattle.tg_reply.specs.SentLaws.{BrokenAreFew, FailedAreBroken, FailedAreCounted, SentAreFew, UnfailedAreUncounted}
use Rattle.tg_reply.specs.Sent.{CountsBetween, Sent, SentFor, bad_head, before_head, behind_sections, broken_in, broken_reply, count_if, exact, failed_in, is_broken, is_server_error, last, limit, next, no_more}
use Rattle.tg_reply.proofs.Joins.{false_true, true_false}

-- ---- a head has at least one byte

-- so has its text
some_text : (text : List ℕ) (count : ℕ) → HeadText text count → 0 < length text
some_text text count t =
    let start = t.start_is.line_is in
    let rest = t.start ++ (joined t.fields ++ print_end t.last) in
    omega (
      arith,
      ap length t.whole,
      length-append (print_blank t.blank) rest,
      length-append t.start (joined t.fields ++ print_end t.last),
      ap length start.whole,
      length-append start.front (10 ∷ []),
    )

-- so have bytes that begin with one
some_bytes : (bytes text : List ℕ) (count : ℕ) → BeginsHead bytes text count → 0 < length bytes
some_bytes bytes text count b = omega (arith, some_text text count b.text_is, ap length b.whole, length-append text b.rest)

-- and bytes that pass the limit
limit_bytes : (bytes : List ℕ) → PassesLimit bytes → 0 < length bytes
limit_bytes bytes (inl h) = omega (arith, h.0)
limit_bytes bytes (inr h) = some_bytes bytes h.0 h.1 h.2

-- ---- there are no more replies than bytes

-- each reply is to at least one byte
pub few : SentAreFew
few store fed rest sent (no_more b) = omega arith
few store fed rest sent (limit b before h) = omega (arith, limit_bytes b h)
few store fed rest sent (bad_head b before h) = omega (arith, some_bytes b h.0 h.1 h.2)
few store fed rest sent (last b r head s begins f e) =
    omega (arith, some_bytes b begins.text begins.is_request.count begins.is_request.begins)
few store fed rest sent (next b r behind head s more begins f e all) =
    omega (
      arith,
      few store r behind more all,
      ap length begins.whole,
      length-append begins.text r,
      some_text begins.text begins.is_request.count begins.is_request.begins.text_is,
    )

-- ---- where the store broke off the reply shows it

-- the reply has status 500 or a body that was cut
abbrev shows_it : Sent → Bool
shows_it s = if is_server_error s.reply.status then true else s.reply.cut

-- a CAR that is cut to GET shows it
cut_shown : (store : Store) (head : RequestHead) (q : QueryParts) (count : ℕ) → is_head head.method ≡ false
    → (if is_server_error (broken_reply store head q count).status then true else (broken_reply store head q count).cut) ≡ true
cut_shown store head q count e = cut_shown_by (is_server_error (broken_reply store head q count).status) (rw e refl)
  where
    cut_shown_by : (c : Bool) → (broken_reply store head q count).cut ≡ true → (if c then true else (broken_reply store head q count).cut) ≡ true
    cut_shown_by true d = refl
    cut_shown_by false d = d

-- where the store broke off the reply has status 500 or is cut
broken_if : (store : Store) (head : RequestHead) (s : Sent) → SentFor store head s → (is_broken s.course ≡ false) ⊎ (shows_it s ≡ true)
broken_if store head s (exact before) = inl refl
broken_if store head s (before_head q before now a r) = inr refl
broken_if store head s (behind_sections q count before now b r) =
    inr (cut_shown store head q count b.by_get)

-- a count that rises wherever another does isn't smaller
count_le : (a b : Bool) (n m : ℕ) → (a ≡ false) ⊎ (b ≡ true) → n ≤ m → count_if a n ≤ count_if b m
count_le false false n m h le = le
count_le false true n m h le = omega (arith, le)
count_le true true n m h le = omega (arith, le)
count_le true false n m (inl e) le = absurd (true_false e)
count_le true false n m (inr e) le = absurd (false_true e)

-- so no more are counted as the store's than are broken
pub broken : FailedAreBroken
broken store fed rest sent (no_more b) = omega arith
broken store fed rest sent (limit b before h) = omega arith
broken store fed rest sent (bad_head b before h) = omega arith
broken store fed rest sent (last b r head s begins f e) = count_le (is_broken s.course) (shows_it s) 0 0 (broken_if store head s f) (omega arith)
broken store fed rest sent (next b r behind head s more begins f e all) =
    count_le (is_broken s.course) (shows_it s) (failed_in more) (broken_in more) (broken_if store head s f) (broken store r behind more all)

-- ---- no more of them are broken than there are

-- one more is counted, or none is
count_up : (c : Bool) (n m : ℕ) → n ≤ m → count_if c n ≤ suc m
count_up true n m le = omega (arith, le)
count_up false n m le = omega (arith, le)

-- so no more replies are broken than there are replies
pub broken_few : BrokenAreFew
broken_few [] = omega arith
broken_few (s ∷ more) = count_up (shows_it s) (broken_in more) (length more) (broken_few more)

-- ---- and the store counted it

-- a count that goes from one number to another doesn't fall
counts_up : (before now : ℕ) (sent : List Sent) → CountsBetween before sent now → before ≤ now
counts_up before now [] h = h
counts_up before now (s ∷ more) h = omega (arith, h.0, h.1, counts_up s.faults_now now more h.2)

-- at one request the store didn't break off, or its count rose
counted_if : (store : Store) (head : RequestHead) (s : Sent) → SentFor store head s → (is_broken s.course ≡ false) ⊎ Rose s.faults_before s.faults_now
counted_if store head s (exact before) = inl refl
counted_if store head s (before_head q before now a r) = inr r
counted_if store head s (behind_sections q count before now b r) = inr r

-- what rose in a part rose in the whole
rose_within : (before a b now : ℕ) → before ≤ a → b ≤ now → Rose a b → Rose before now
rose_within before a b now le up r = λ fits. omega (arith, le, up, r (omega (arith, up, fits)))

-- none here, and none below
none_here : (c : Bool) (n : ℕ) → c ≡ false → n ≡ 0 → count_if c n ≡ 0
none_here c n e d = rw (e, d) refl

-- for the first and the later ones
counted_both : (s : Sent) (more : List Sent) (before now : ℕ) → (is_broken s.course ≡ false) ⊎ Rose s.faults_before s.faults_now
    → CountsBetween before (s ∷ more) now → (failed_in more ≡ 0) ⊎ Rose s.faults_now now
    → (failed_in (s ∷ more) ≡ 0) ⊎ Rose before now
counted_both s more before now (inl e) h (inl none) = inl (none_here (is_broken s.course) (failed_in more) e none)
counted_both s more before now (inl e) h (inr r) = inr (rose_within before s.faults_now now now (omega (arith, h.0, h.1)) (omega arith) r)
counted_both s more before now (inr r) h below = inr (rose_within before s.faults_before s.faults_now now h.0 (counts_up s.faults_now now more h.2) r)

-- the store broke off only where its count rose
pub counted : FailedAreCounted
counted store fed rest sent before now (no_more b) h = inl refl
counted store fed rest sent before now (limit b at k) h = inl refl
counted store fed rest sent before now (bad_head b at k) h = inl refl
counted store fed rest sent before now (last b r head s begins f e) h =
    counted_both s [] before now (counted_if store head s f) h (inl refl)
counted store fed rest sent before now (next b r behind head s more begins f e all) h =
    counted_both s more before now (counted_if store head s f) h (counted store r behind more s.faults_now now all h.2)

-- ---- where it broke off nowhere its count is what it was

-- at one request that it didn't break off it counted nothing
quiet_if : (store : Store) (head : RequestHead) (s : Sent) → SentFor store head s → is_broken s.course ≡ false → s.faults_now ≡ s.faults_before
quiet_if store head s (exact before) e = refl
quiet_if store head s (before_head q before now a r) e = absurd (true_false e)
quiet_if store head s (behind_sections q count before now b r) e = absurd (true_false e)

-- where none is counted none is here, and none below
none_counted : (c : Bool) (n : ℕ) → count_if c n ≡ 0 → (c ≡ false) × (n ≡ 0)
none_counted true n e = absurd (omega (arith, e))
none_counted false n e = (refl, e)

-- so what follows is counted from the same number
pub uncounted : UnfailedAreUncounted
uncounted store fed rest sent before now (no_more b) h none = h
uncounted store fed rest sent before now (limit b at k) h none = h.2 ∙ h.0
uncounted store fed rest sent before now (bad_head b at k) h none = h.2 ∙ h.0
uncounted store fed rest sent before now (last b r head s begins f e) h none =
    h.2 ∙ quiet_if store head s f (none_counted (is_broken s.course) 0 none).0 ∙ h.0
uncounted store fed rest sent before now (next b r behind head s more begins f e all) h none =
    let below = none_counted (is_broken s.course) (failed_in more) none in
    uncounted store r behind more s.faults_now now all h.2 below.1 ∙ quiet_if store head s f below.0 ∙ h.0
