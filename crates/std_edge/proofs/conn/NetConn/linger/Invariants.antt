use Rattle.std_edge.proofs.conn.NetConn.linger.Given as goal

abbrev pub decreases-loop-left : goal.decreases-loop-left
decreases-loop-left g l = l.left
