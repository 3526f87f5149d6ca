use Rattle.std.proofs.Common.{refl}
use Rattle.tg_base32.specs.Base32.{bits}
use Rattle.tg_base32.specs.Computed.{base32}
use Rattle.tg_cid.specs.Computed.{cid_of, cid_text}
use Rattle.tg_dagpb.specs.Computed.{link_in, node_of}
use Rattle.tg_pbtable.specs.Computed.{fields_of}
use Rattle.tg_unixfs.specs.Computed.{unix_of}
use Rattle.tg_oracle.proofs.HelloChecks.{leafless_checked, middle_checked}
use Rattle.tg_oracle.proofs.hello_world.example_partial.Goals as goal

pub returns-clause-fits : goal.returns-clause-fits
returns-clause-fits c = λ named. record {
  right = record {
    root = refl;
    opened = refl;
    alone = tt;
    checked = middle_checked c.readings.ensures.computed c.example_blocks.ensures.file c.example_blocks.ensures.directory named;
    one_each = tt;
  };
  list = refl;
  end = refl;
  text = refl;
}

pub returns-clause-in_progress : goal.returns-clause-in_progress
returns-clause-in_progress c = λ named. record {
  right = record {
    root = refl;
    opened = refl;
    alone = tt;
    checked = leafless_checked c.readings.ensures.computed c.example_blocks.ensures.file c.example_blocks.ensures.directory named;
    one_each = tt;
  };
  list = refl;
  end = refl;
  asked = refl;
  not_seen = tt;
}

pub returns-clause-view : goal.returns-clause-view
unfolding cid_of fields_of link_in node_of unix_of
returns-clause-view c = refl

pub returns-clause-listed : goal.returns-clause-listed
unfolding bits cid_text base32
returns-clause-listed c = refl
