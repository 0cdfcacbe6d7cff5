use Rattle.answer_laws.proofs.CallsBetween.{of_accept, of_cancel, of_cancel_now, of_getoverrun, of_gettime, of_interrupt, of_next_expiry, of_next_signal, of_now, of_offline, of_online, of_peek, of_read, of_readable, of_settime, of_sleep, of_slept, of_start, of_write}
use Rattle.answer_laws.proofs.lives.a_call_stands_in_the_one_history.Goals as goal

pub returns : goal.returns
returns c = record {
  now = of_now;
  write = of_write;
  start = of_start;
  cancel = of_cancel;
  cancel_now = of_cancel_now;
  peek = of_peek;
  next_expiry = of_next_expiry;
  offline = of_offline;
  online = of_online;
  settime = of_settime;
  gettime = of_gettime;
  read = of_read;
  accept = of_accept;
  sleep = of_sleep;
  interrupt = of_interrupt;
  readable = of_readable;
  getoverrun = of_getoverrun;
  slept = of_slept;
  next_signal = of_next_signal;
}
