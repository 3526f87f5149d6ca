-- Bytes that are kept in a room, and the head at their front.
use Rattle.std.proofs.Common.{◌≡◌, ℕ, ◌+◌, ◌-◌, ◌≤◌, List, ◌++◌, length, take, drop, slice_range, Some, Err, refl, sym, ap, ◌∙◌, arith, inl, inr}
use Rattle.std.specs.Prelude.{◌⊎◌}
use Rattle.std.proofs.lemmas.List.{drop_at, drop-append-le, drop-drop, drop-take, length-append, length-drop, length-take-le}
use Rattle.std.proofs.lemmas.Slice.{between_is, take-put_mid}
use borrow.Rule.Slice.PartMut.{put_mid}
use Rattle.tg_http.specs.Heads.{FindsRequest, HasHeadCause, IsNoRequest}
use Rattle.tg_http.specs.declared.fault.HttpFault.{HttpFault}
use Rattle.tg_http.specs.declared.fault.HttpFault.TheVariants.{BadFraming, BadHead, HeadLimit, OutOfMemory}
use Rattle.tg_http.specs.declared.request.RequestHead.{RequestHead}
use Rattle.tg_reply.specs.Streams.{BeginsRequest}
use Rattle.tg_gateway.specs.Heads.{NextHead}

-- bytes put behind those that are kept
pub grown : (room bytes : List ℕ) (start end k n : ℕ) → start ≤ end → end ≤ length room → n ≡ length bytes
    → slice_range (put_mid end k room bytes) start (end + n) ≡ slice_range room start end ++ bytes
grown room bytes start end k n order within size =
    between_is (put_mid end k room bytes) start (end + n)
    ∙ ap (drop start) (take-put_mid end k room bytes (end + n) (omega arith) within)
    ∙ drop-append-le start (take end room) bytes (omega (arith, length-take-le end room within))
    ∙ ap (λ (l : List ℕ). l ++ bytes) (sym (between_is room start end))

-- bytes that go from the front
pub consumed : (room : List ℕ) (start end count : ℕ) → start + count ≤ end
    → slice_range room (start + count) end ≡ drop count (slice_range room start end)
consumed room start end count inside =
    let parts : end - start ≡ count + (end - (start + count)) = omega arith in
    sym (ap (λ j. drop count (take j (drop start room))) parts ∙ drop-take count _ (drop start room)
    ∙ ap (take (end - (start + count))) (drop-drop count start room))

-- how many are kept
pub length-kept : (room : List ℕ) (start end : ℕ) → end ≤ length room → length (slice_range room start end) ≡ end - start
length-kept room start end within = length-take-le (end - start) (drop start room) (omega (arith, length-drop start room))

-- the bytes that a head has are some of those that are kept
pub length-used : (kept : List ℕ) (head : RequestHead) → FindsRequest kept (Some head) → head.used ≤ length kept
length-used kept head found =
    let begins = found.2.begins in
    omega (arith, found.3.used_is, ap length begins.whole, length-append found.0 begins.rest)

-- the bytes begin with the head that was found
pub begun : (kept : List ℕ) (head : RequestHead) → FindsRequest kept (Some head)
    → BeginsRequest kept head (drop head.used kept)
begun kept head found =
    let text = found.0 in
    let begins = found.2.begins in
    let behind : drop head.used kept ≡ begins.rest =
    ap (λ n. drop n kept) found.3.used_is ∙ ap (drop (length text)) begins.whole ∙ drop_at text begins.rest (length text) refl in
    record {
      text = text;
      tree = found.1;
      is_request = found.2;
      told = found.3;
      whole = begins.whole ∙ ap (λ (l : List ℕ). text ++ l) (sym behind);
    }

-- the bytes after a refusal
pub refused : (old new : List ℕ) (fault : HttpFault) → (fault ≡ OutOfMemory) ⊎ HasHeadCause IsNoRequest old fault
    → new ≡ old
    → NextHead old new (Err fault)
refused old new HeadLimit (inr cause) same = (cause, same)
refused old new HeadLimit (inl other) same = absurd (let no : ⊥ = cc in no)
refused old new BadHead (inr cause) same = (cause, same)
refused old new BadHead (inl other) same = absurd (let no : ⊥ = cc in no)
refused old new BadFraming (inr cause) same = cause
refused old new BadFraming (inl other) same = absurd (let no : ⊥ = cc in no)
refused old new OutOfMemory cause same = same
