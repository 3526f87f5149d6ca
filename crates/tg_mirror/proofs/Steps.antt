-- The steps of a pack that is filled, one behind another, and the causes of faults.
use Rattle.std.proofs.Common.{true, Err, List, None, Ok, Option, Result, [], ap, arith, inl, subst, ℕ, ◌+◌, ◌^◌, ◌<◌, ◌∙◌, ◌≡◌, ◌≤◌}
use Rattle.std.specs.Prelude.{⊤}
use Rattle.tg_cid.specs.Cid.{CidParts}
use Rattle.tg_dials.specs.Dials.{Dialling}
use Rattle.tg_faults.specs.Faults.{Rose}
use Rattle.tg_fetch.specs.Calls.{FetchEnds}
use Rattle.tg_fetch.specs.Keeping.{HasFaultCause}
use Rattle.tg_fetch.specs.declared.fault.FetchFault.{FetchFault}
use Rattle.tg_fetch.specs.declared.fault.FetchFault.TheVariants as fetches
use Rattle.tg_files.specs.Packs.{PackMeaning, PackQuiet, PackRose, PackStep, overwritten, pack_step}
use Rattle.tg_mirror.specs.Mirrors.{HasMirrorCause, IsMirrored, MirrorCalls, dropped, mirror_query}
use Rattle.tg_mirror.specs.declared.fault.MirrorFault.{MirrorFault}
use Rattle.tg_mirror.specs.declared.fault.MirrorFault.TheVariants as faults
use Rattle.tg_mirror.specs.declared.mirrored.Mirrored.{Mirrored}
use Rattle.tg_model.specs.LimitNumbers.{LimitNumbers}
use Rattle.tg_model.specs.Queries.{QueryParts}
use Rattle.tg_model.specs.Stores.{Keeping, KeepingQuiet, KeepingRose}
use Rattle.tg_model.specs.declared.queries.Form.TheVariants as forms
use Rattle.tg_model.specs.declared.queries.Scope.TheVariants as scopes
use Rattle.tg_store.specs.declared.fault.PackFault.TheVariants as packs
use Rattle.tg_verify.specs.declared.fault.Refusal.TheVariants as refusals

-- ---- counts of faults

module _ {P : Type 0} (m : PackMeaning P) (a b c : P) where
  pub quiet_then : PackQuiet (pack_step m a b) → PackQuiet (pack_step m b c) → PackQuiet (pack_step m a c)
  quiet_then h k = k ∙ h

  pub rose_then : PackQuiet (pack_step m a b) → PackRose (pack_step m b c) → PackRose (pack_step m a c)
  rose_then h k = record {
    rose = subst (λ (n : ℕ). Rose n (m.faults c)) h k.rose;
    counted = subst (λ (n : ℕ). n ≤ m.faults c) h k.counted;
  }

-- the same causes, where the counts move alike
pub cause_moved : (step other : PackStep) (result : Result Mirrored MirrorFault) → (PackQuiet step → PackQuiet other) → (PackRose step → PackRose other) → HasMirrorCause step result
    → HasMirrorCause other result
cause_moved step other (Ok mirrored) quiet rose h = quiet h
cause_moved step other (Err (faults.Pack packs.Failed)) quiet rose h = rose h
cause_moved step other (Err (faults.Pack (packs.NotCar at))) quiet rose h = h
cause_moved step other (Err (faults.Pack (packs.BadDigest at))) quiet rose h = h
cause_moved step other (Err (faults.Pack packs.Unfinished)) quiet rose h = h
cause_moved step other (Err (faults.Pack (packs.Truncated at))) quiet rose h = h
cause_moved step other (Err (faults.Pack (packs.BlockLimit at))) quiet rose h = h
cause_moved step other (Err (faults.Pack packs.OutOfMemory)) quiet rose h = h
cause_moved step other (Err (faults.Client fetches.KeepFault)) quiet rose h = rose h
cause_moved step other (Err (faults.Client (fetches.Refused (refusals.Extra number)))) quiet rose h = quiet h
cause_moved step other (Err (faults.Client (fetches.Refused (refusals.Limit kind number)))) quiet rose h = quiet h
cause_moved step other (Err (faults.Client (fetches.Refused (refusals.BadDigest cid)))) quiet rose h = quiet h
cause_moved step other (Err (faults.Client (fetches.Refused (refusals.WrongBlock want got)))) quiet rose h = quiet h
cause_moved step other (Err (faults.Client (fetches.Refused (refusals.BadBlock cid fault)))) quiet rose h = quiet h
cause_moved step other (Err (faults.Client (fetches.Refused (refusals.BadSize declared actual)))) quiet rose h = quiet h
cause_moved step other (Err (faults.Client (fetches.Refused (refusals.NotFolder segment)))) quiet rose h = quiet h
cause_moved step other (Err (faults.Client (fetches.Refused (refusals.NotThere segment)))) quiet rose h = quiet h
cause_moved step other (Err (faults.Client (fetches.Refused refusals.SinkFault))) quiet rose h = h
cause_moved step other (Err (faults.Client (fetches.Refused (refusals.Truncated want number)))) quiet rose h = quiet h
cause_moved step other (Err (faults.Client (fetches.Refused refusals.OutOfMemory))) quiet rose h = quiet h
cause_moved step other (Err (faults.Client (fetches.Status status))) quiet rose h = quiet h
cause_moved step other (Err (faults.Client fetches.BadType)) quiet rose h = quiet h
cause_moved step other (Err (faults.Client fetches.BadReplyHead)) quiet rose h = quiet h
cause_moved step other (Err (faults.Client fetches.BadFraming)) quiet rose h = quiet h
cause_moved step other (Err (faults.Client (fetches.BadCar fault))) quiet rose h = quiet h
cause_moved step other (Err (faults.Client fetches.PeerFault)) quiet rose h = quiet h
cause_moved step other (Err (faults.Client fetches.OutOfMemory)) quiet rose h = quiet h

-- those of a call
pub client_cause : (step : PackStep) (keeping : Keeping) (fault : FetchFault) → (KeepingQuiet keeping → PackQuiet step) → (KeepingRose keeping → PackRose step)
    → HasFaultCause {A = ⊤} dropped keeping (Err fault) → HasMirrorCause step (Err (faults.Client fault))
client_cause step keeping fetches.KeepFault quiet rose h = rose h.1
client_cause step keeping (fetches.Refused (refusals.Extra number)) quiet rose h = quiet h.1
client_cause step keeping (fetches.Refused (refusals.Limit kind number)) quiet rose h = quiet h.1
client_cause step keeping (fetches.Refused (refusals.BadDigest cid)) quiet rose h = quiet h.1
client_cause step keeping (fetches.Refused (refusals.WrongBlock want got)) quiet rose h = quiet h.1
client_cause step keeping (fetches.Refused (refusals.BadBlock cid fault)) quiet rose h = quiet h.1
client_cause step keeping (fetches.Refused (refusals.BadSize declared actual)) quiet rose h = quiet h.1
client_cause step keeping (fetches.Refused (refusals.NotFolder segment)) quiet rose h = quiet h.1
client_cause step keeping (fetches.Refused (refusals.NotThere segment)) quiet rose h = quiet h.1
client_cause step keeping (fetches.Refused refusals.SinkFault) quiet rose h =
    let some : 0 + 1 < 2 ^ 64 = omega arith in
    let none : 0 < 0 = h.0 some in
    absurd (omega (arith, none))
client_cause step keeping (fetches.Refused (refusals.Truncated want number)) quiet rose h = quiet h.1
client_cause step keeping (fetches.Refused refusals.OutOfMemory) quiet rose h = quiet h.1
client_cause step keeping (fetches.Status status) quiet rose h = quiet h.1
client_cause step keeping fetches.BadType quiet rose h = quiet h.1
client_cause step keeping fetches.BadReplyHead quiet rose h = quiet h.1
client_cause step keeping fetches.BadFraming quiet rose h = quiet h.1
client_cause step keeping (fetches.BadCar fault) quiet rose h = quiet h.1
client_cause step keeping fetches.PeerFault quiet rose h = quiet h.1
client_cause step keeping fetches.OutOfMemory quiet rose h = quiet h.1

-- ---- the call that was made

-- with the query for all of the DAG
pub whole_query : (q : QueryParts) (root : CidParts) (path : List (List ℕ)) → path ≡ []
    → q ≡ record { root = root; path = path; form = forms.Car; scope = scopes.All; span = None; dups = true } → q ≡ mirror_query root
whole_query q root path none h =
    h ∙ ap (λ (p : List (List ℕ)). let query : QueryParts = record { root = root; path = p; form = forms.Car; scope = scopes.All; span = None; dups = true } in query) none

pub client_calls : (root : CidParts) (limits : LimitNumbers) (addr : List ℕ) (Untouched : Type 0) (dial : Dialling) (fault : FetchFault)
    → FetchEnds (mirror_query root) limits addr dial dropped (Err fault) → MirrorCalls root limits addr Untouched dial (Err (faults.Client fault))
client_calls root limits addr Untouched dial fetches.OutOfMemory h = inl h
client_calls root limits addr Untouched dial (fetches.Refused refusal) h = h
client_calls root limits addr Untouched dial (fetches.Status status) h = h
client_calls root limits addr Untouched dial fetches.BadType h = h
client_calls root limits addr Untouched dial fetches.BadReplyHead h = h
client_calls root limits addr Untouched dial fetches.BadFraming h = h
client_calls root limits addr Untouched dial (fetches.BadCar fault) h = h
client_calls root limits addr Untouched dial fetches.PeerFault h = h
client_calls root limits addr Untouched dial fetches.KeepFault h = h

-- ---- steps

-- a pack that tells nothing tells nothing once it is written over
pub gone_over : (old new : Option (List ℕ)) (bytes : List ℕ) → new ≡ overwritten old 0 bytes → old ≡ None → new ≡ None
gone_over old new bytes h none = h ∙ ap (λ (o : Option (List ℕ)). overwritten o 0 bytes) none

-- what is mirrored, from an earlier pack on
pub mirrored_from : {P : Type 0} (m : PackMeaning P) (root : CidParts) (limits : LimitNumbers) (dial : Dialling) (a b c : P) (mirrored : Mirrored)
    → IsMirrored root limits dial (pack_step m b c) mirrored → IsMirrored root limits dial (pack_step m a c) mirrored
mirrored_from m root limits dial a b c mirrored h =
    record { heard = h.heard; heard_in = h.heard_in; over = h.over; answer = h.answer; pack = h.pack; serves = h.serves }
