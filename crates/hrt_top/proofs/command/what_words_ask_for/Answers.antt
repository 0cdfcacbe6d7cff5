use Rattle.hrt_top.proofs.CommandLines.{in_order, lacking, no_help, no_word, no_words, run_is_run}
use Rattle.hrt_top.proofs.command.what_words_ask_for.Goals as goal

pub returns : goal.returns
returns c = record {
  run = run_is_run;
  make = λ name s w n s_small w_some w_few n_few options order. in_order s w n s_small w_some w_few n_few name options order;
  incomplete = lacking;
  none = (no_words, no_word);
  help = no_help;
}
