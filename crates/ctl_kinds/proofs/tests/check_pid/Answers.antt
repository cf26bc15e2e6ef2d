use Rattle.ctl_kinds.proofs.tests.check_pid.Goals as goal

pub returns : goal.returns
returns g c = record {
  setpoint = c.check.ensures;
  p = c.check-2.ensures;
  i = c.check-3.ensures;
  d = c.check-4.ensures;
  ff_gain = c.check-5.ensures;
  ff_off = c.check-6.ensures;
  i_min = c.check-7.ensures;
  i_max = c.check-8.ensures;
  out_min = c.check-9.ensures;
  out_max = c.check-10.ensures;
  slew_neg = c.check-11.ensures;
  slew_pos = c.check-12.ensures;
  integrals = c.check_order.ensures;
  outputs = c.check_order-2.ensures;
  percent = c.check_percent.ensures;
}
