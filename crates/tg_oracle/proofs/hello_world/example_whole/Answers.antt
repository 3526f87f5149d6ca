use Rattle.std.proofs.Common.{◌≡◌, ◌∷◌, [], refl, lit<}
use Rattle.std.specs.Prelude.{decimal}
use Rattle.std.proofs.lemmas.Fmt.{decimal-digits_of}
use Rattle.tg_base32.specs.Base32.{bits}
use Rattle.tg_base32.specs.Computed.{base32}
use Rattle.tg_cid.specs.Computed.{cid_text}
use Rattle.tg_oracle.proofs.HelloChecks.{whole_sound}
use Rattle.tg_oracle.proofs.hello_world.example_whole.Goals as goal

pub returns-clause-sound : goal.returns-clause-sound
returns-clause-sound c = whole_sound c.readings.ensures.computed c.example_blocks.ensures.file c.example_blocks.ensures.directory

pub returns-clause-bundle : goal.returns-clause-bundle
returns-clause-bundle c = let eleven : decimal 11 ≡ 49 ∷ 49 ∷ [] = decimal-digits_of 11 (lit< tt) (lit< tt) in
    rw eleven refl

pub returns-clause-lines : goal.returns-clause-lines
unfolding bits cid_text base32
returns-clause-lines c = refl
