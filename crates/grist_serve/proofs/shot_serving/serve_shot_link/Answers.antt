use Rattle.grist_serve.proofs.ShotCompleteness.{inner}
use Rattle.grist_serve.proofs.shot_serving.serve_shot_link.Goals as goal

pub returns-clause-complete : goal.returns-clause-complete
returns-clause-complete g c a b few =
    inner c.args.session.now _ _ _ _ _ _ a b few c.serve_lines-end.result c.serve_lines-end.ensures.ends c.serve_lines-end.ensures.read_fault c.serve_lines-end.ensures.write_fault
