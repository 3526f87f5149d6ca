use Rattle.tg_oracle.proofs.HelloLayout.{import_layout, shows_folder}
use Rattle.tg_oracle.specs.HelloWorld.{options_of_four, whole_dag}
use Rattle.tg_oracle.proofs.hello_world.example_import.Goals as goal

pub returns-clause-shows : goal.returns-clause-shows
returns-clause-shows c = shows_folder

pub returns-clause-layout : goal.returns-clause-layout
returns-clause-layout c =
    import_layout (record { fields = c.computes.ensures.fields; table = c.table_laws.ensures.messages.table; node = c.computes-2.ensures.node; data_is = c.computes-3.ensures.data; cid = c.computes-4.ensures.cid })

pub returns-clause-only : goal.returns-clause-only
returns-clause-only c = λ named tree file e is sound laid.
    let layout =
    import_layout
    (record {
      fields = c.computes.ensures.fields;
      table = c.table_laws.ensures.messages.table;
      node = c.computes-2.ensures.node;
      data_is = c.computes-3.ensures.data;
      cid = c.computes-4.ensures.cid;
    })
    tree file is in
    c.one_root.ensures options_of_four tree e whole_dag sound (c.example_whole.ensures.sound named) laid layout
