use Rattle.std.proofs.Common.{arith}
use Rattle.op_machine.proofs.NodeLaws.{first_node-least, first_node-all, count_nodes-most}
use Rattle.op_machine.proofs.laws.nodes_by_tests.Goals as goal

pub returns : goal.returns
returns c = record {
  first = λ p n e. (first_node-least p n e).here;
  least = λ p n j e less. (first_node-least p n e).before j (omega arith) less;
  none = λ p j e less. first_node-all p e j less;
  most = count_nodes-most;
}
