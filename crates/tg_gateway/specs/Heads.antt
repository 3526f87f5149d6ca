-- What is read of the bytes that are kept of heads (RFC 9112, section 2.2).
use Rattle.std.specs.Prelude.{◌≡◌, ℕ, List, Option, Some, None, Result, Ok, Err}
use Rattle.tg_http.specs.Heads.{HasWholeText, IsNoRequest, IsWaiting, PassesLimit}
use Rattle.tg_http.specs.declared.fault.HttpFault.{HttpFault}
use Rattle.tg_http.specs.declared.fault.HttpFault.TheVariants.{BadFraming, BadHead, HeadLimit, OutOfMemory}
use Rattle.tg_http.specs.declared.request.RequestHead.{RequestHead}
use Rattle.tg_reply.specs.Streams.{BeginsRequest}

-- what was read of the bytes that are kept
abbrev pub NextHead : List ℕ → List ℕ → Result (Option RequestHead) HttpFault → Type 0
NextHead old new (Ok None) = IsWaiting old × (new ≡ old)
NextHead old new (Ok (Some head)) = BeginsRequest old head new
NextHead old new (Err HeadLimit) = PassesLimit old × (new ≡ old)
NextHead old new (Err BadHead) = HasWholeText IsNoRequest old × (new ≡ old)
NextHead old new (Err BadFraming) = ⊥
NextHead old new (Err OutOfMemory) = new ≡ old
