use Rattle.tg_dials.proofs.tcp.TcpDialDial.wait.Goals as goal

pub returns-clause-place : goal.returns-clause-place
returns-clause-place g c = c.first_ready.ensures c.requires.0 c.requires.1 c.requires.2
