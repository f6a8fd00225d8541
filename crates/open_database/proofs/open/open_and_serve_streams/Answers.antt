use Rattle.open_database.proofs.open.open_and_serve_streams.Goals as goal

pub returns : goal.returns
returns g c ok = (g.W.Write.contents c.open_and_serve.new.output, c.open_and_serve.ensures.lived ok)
