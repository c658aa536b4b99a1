mod Wide
mod Small
